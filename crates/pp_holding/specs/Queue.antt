-- Chunks that wait for a commit, and whom those came from that were committed.
use Rattle.std.specs.Prelude.{ℕ, ◌+◌, ◌≤◌, nat_le, Bool, List, [], ◌∷◌, ◌++◌, length, map, reverse, take}
use Rattle.std.specs.List.{list_any}
use Rattle.pp_promises.specs.Batches.{Pending, longest_wait}
use Rattle.pp_holding.specs.declared.queue.Ticket.{Ticket}
use Rattle.pp_holding.specs.declared.queue.Waiting.{Waiting}

-- The chunks that are pending, the newest first, each with its ticket and the moment at which it was put; the tickets of chunks that
-- were just committed, and those of DATA that came again when the chunk was committed already, each with the oldest first.
pub record QueueState : Type 0 where
  pub waiting : List Waiting
  pub tickets : List Ticket
  pub repeats : List Ticket

-- nothing waits, and nobody is to be acknowledged
abbrev pub empty_queue : QueueState
empty_queue = record { waiting = []; tickets = []; repeats = [] }

-- a chunk that was put at a moment
abbrev pub waiting_at : Ticket → ℕ → Waiting
waiting_at ticket at = record { ticket = ticket; put_at = at }

-- There is room for so many tickets of either kind: a datagram of 65,535 bytes has 243 DATA of 256 bytes at the most, and fewer than
-- 64 chunks were pending before it.
abbrev pub most_tickets : ℕ
most_tickets = 307

-- Tickets with others behind them; what finds no room is dropped.
abbrev pub with_tickets : List Ticket → List Ticket → List Ticket
with_tickets tickets more = take most_tickets (tickets ++ more)

-- the tickets of what waits, in the order in which it was put
abbrev pub tickets_of : List Waiting → List Ticket
tickets_of waiting = map (λ w. w.ticket) (reverse waiting)

-- What waits was committed.
abbrev pub released : QueueState → QueueState
released q = record q { waiting = []; tickets = with_tickets q.tickets (tickets_of q.waiting) }

-- One chunk more waits.
abbrev pub with_waiting : Waiting → QueueState → QueueState
with_waiting w q = record q { waiting = w ∷ q.waiting }

-- One sender more of a chunk that was committed already is to be acknowledged.
abbrev pub with_repeat : Ticket → QueueState → QueueState
with_repeat ticket q = record q { repeats = with_tickets q.repeats (ticket ∷ []) }

-- There is no ticket more, of either kind, than there is room for.
pub record HasRoom (q : QueueState) : Type 0 where
  pub tickets : length q.tickets ≤ most_tickets
  pub repeats : length q.repeats ≤ most_tickets

-- What waits, the tickets and the repeats grow by one at the most: the first two together, the repeats alone, and all of them.
pub record GrowsByOne (old new : QueueState) : Type 0 where
  pub news : length new.tickets + length new.waiting ≤ length old.tickets + length old.waiting + 1
  pub repeats : length new.repeats ≤ length old.repeats + 1
  pub all : length new.tickets + length new.waiting + length new.repeats ≤ length old.tickets + length old.waiting + length old.repeats + 1

-- some chunk waits for long
abbrev pub is_any_late : (now : ℕ) → List Waiting → Bool
is_any_late now waiting = list_any (λ w. nat_le (w.put_at + longest_wait) now) waiting

-- a chunk that waits, as the promises of a run see it
abbrev pub pending_of : Waiting → Pending
pending_of w = record { chunk = w.ticket.chunk; put_at = w.put_at }
