-- What a commit at the end of an event does to the queue.
use Rattle.std.proofs.Common.{◌≡◌, ◌∙◌, ◌<◌, Bool, true, false, List, [], length, Result, Ok, Err, ap, subst, sym, arith}
use Rattle.std.specs.Prelude.{if◌then◌else◌, OnOk, OnErr}
use Rattle.pp_outside.specs.declared.disk.DiskFault.{DiskFault}
use Rattle.pp_store.specs.Store.{StoreState}
use Rattle.pp_promises.specs.Batches.{most_pending}
use Rattle.pp_holding.specs.declared.queue.Waiting.{Waiting}
use Rattle.pp_holding.specs.Queue.{QueueState, HasRoom, tickets_of, with_tickets, released}
use Rattle.pp_holding.proofs.Tickets.{add_nothing}
use Rattle.pp_holding.proofs.Puts.{with_few}

pub few_settled : (result : Result (Unit {0}) DiskFault) (due : Bool) (q q' : QueueState) → length q.waiting < most_pending
    → OnOk result (q' ≡ (if due then released q else q)) → OnOk result (length q'.waiting < most_pending)
few_settled (Ok x) due q q' few is = subst (λ (x : QueueState). length x.waiting < most_pending) (sym is) (pick due)
  where
    pick : (b : Bool) → length (if b then released q else q).waiting < most_pending
    pick true = omega arith
    pick false = few
few_settled (Err x) due q q' few is = tt

pub dead_settled : (result : Result (Unit {0}) DiskFault) (s s' : StoreState) (q q' : QueueState) → OnErr result ((s' ≡ record s { live = false }) × (q' ≡ q))
    → OnErr result (s'.live ≡ false)
dead_settled (Ok x) s s' q q' dead = tt
dead_settled (Err x) s s' q q' dead = ap (λ (x : StoreState). x.live) dead.0

pub room_settled : (result : Result (Unit {0}) DiskFault) (due : Bool) (s s' : StoreState) (q q' : QueueState) → HasRoom q
    → OnOk result (q' ≡ (if due then released q else q)) → OnErr result ((s' ≡ record s { live = false }) × (q' ≡ q)) → HasRoom q'
room_settled (Ok x) due s s' q q' few is dead = subst (λ (x : QueueState). HasRoom x) (sym is) (pick due)
  where
    pick : (b : Bool) → HasRoom (if b then released q else q)
    pick true = record { tickets = (with_few q.tickets (tickets_of q.waiting)).1; repeats = few.repeats }
    pick false = few
room_settled (Err x) due s s' q q' few is dead = subst (λ (x : QueueState). HasRoom x) (sym dead.1) few

-- with nothing that waits
pub same_queue : (result : Result (Unit {0}) DiskFault) (due : Bool) (q q' : QueueState) → HasRoom q → q.waiting ≡ [] → result ≡ Ok tt
    → OnOk result (q' ≡ (if due then released q else q)) → q' ≡ q
same_queue (Ok x) due q q' few none ok is = is ∙ pick due
  where
    pick : (b : Bool) → (if b then released q else q) ≡ q
    pick true = λ t. record {
      waiting = sym none t;
      tickets = (ap (λ (ws : List Waiting). with_tickets q.tickets (tickets_of ws)) none ∙ sym (add_nothing q.tickets few.tickets)) t;
      repeats = q.repeats;
    }
    pick false = λ t. q
same_queue (Err x) due q q' few none ok is = absurd cc
