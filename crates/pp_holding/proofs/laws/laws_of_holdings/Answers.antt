use Rattle.pp_holding.proofs.Events.{advances_compose, kept_is_sound, committed_stays, puts_compose, events_are_in_time, tickets_fit}
use Rattle.pp_holding.proofs.laws.laws_of_holdings.Goals as goal

pub returns : goal.returns
returns c = record {
  compose = advances_compose;
  sound = kept_is_sound;
  stays = committed_stays;
  puts = puts_compose;
  events = events_are_in_time c.laws_of_promises.ensures.batches;
  tickets = tickets_fit;
}
