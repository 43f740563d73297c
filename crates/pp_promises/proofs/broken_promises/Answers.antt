use Rattle.pp_promises.proofs.BrokenRuns as broken
use Rattle.pp_promises.proofs.broken_promises.Goals as goal

pub returns : goal.returns
returns c = record {
  serves = broken.serves;
  serves_but_one = broken.serves_but_one;
  serves_stood = broken.serves_stood;
  tells = broken.tells;
  tells_again = broken.tells_again;
  tells_few = broken.tells_few;
  acknowledges = broken.acknowledges;
  stores = broken.stores;
  stores_dialled = broken.stores_dialled;
  lets_in = broken.lets_in;
  chokes_none = broken.chokes_none;
  keeps_up = broken.keeps_up;
  keeps_up_closed = broken.keeps_up_closed;
  dials = broken.dials;
  asks = broken.asks;
  requests_none = broken.requests_none;
  whole = broken.whole;
  long = broken.long;
  closes_last = broken.closes_last;
  plans = broken.plans;
  plans_more = broken.plans_more;
  plans_less = broken.plans_less;
  committed = broken.committed;
  took = broken.took;
  tallied = broken.tallied;
  batches = broken.batches;
  batches_early = broken.batches_early;
  batches_lost = broken.batches_lost;
  batches_forgotten = broken.batches_forgotten;
  batches_reset = broken.batches_reset;
}
