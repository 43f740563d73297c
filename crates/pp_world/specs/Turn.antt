-- One turn of a peer: a wait, which takes the oldest datagram of its queue, and what is sent upon that.
use Rattle.std.specs.Prelude.{◌≡◌, ◌⊎◌, ℕ, ◌+◌, ◌<◌, true, false, if◌then◌else◌, List, [], ◌∷◌, ◌++◌, length, drop}
use Rattle.std.specs.List.{AllByRecursion}
use Rattle.pp_terms.specs.disk.Calls.{history_of}
use Rattle.pp_terms.specs.disk.Disk.{moment_of}
use Rattle.pp_terms.specs.format.Traffic.{Record, Received, Quiet, Sent}
use Rattle.pp_terms.specs.tree.Book.{LookUp}
use Rattle.pp_world.specs.DiskCalls.{MakesCalls}
use Rattle.pp_world.specs.Orders.{times_used}
use Rattle.pp_world.specs.Schedule.{Send, Receive}
use Rattle.pp_world.specs.Session.{Session}
use Rattle.pp_world.specs.World.{Queued, PeerState, mark_of}

-- what a wait brings: the oldest datagram of a queue, or that none came
abbrev pub event_of : (clock : ℕ) → List Queued → Record
event_of clock [] = Quiet clock
event_of clock (oldest ∷ rest) = Received clock oldest.sender oldest.bytes

-- the record of a turn's wait; there is none where the wait was ordered to fail
abbrev pub wait_records : (clock : ℕ) → PeerState → List Record
wait_records clock x = if x.orders.receive then [] else event_of clock x.queue ∷ []

-- the queue after the wait
abbrev pub queue_after_wait : PeerState → List Queued
queue_after_wait x = if x.orders.receive then x.queue else drop 1 x.queue

-- A datagram was sent, at that moment of the disk.
abbrev pub WentAt : ℕ → Record → Type 0
WentAt now (Received at sender bytes) = ⊥
WentAt now (Quiet at) = ⊥
WentAt now (Sent moment receiver bytes) = moment ≡ now

-- how many calls of the link were refused in a turn
abbrev pub link_refusals : (old new : PeerState) → ℕ
link_refusals old new = times_used Send old.orders new.orders + times_used Receive old.orders new.orders

-- the session after a turn in which its link gained records and its peer came to be another
abbrev pub with_turn : Session → List Record → LookUp → (old new : PeerState) → Session
with_turn s added book old new = record s {
  turns = mark_of new (length (added ++ s.traffic)) ∷ s.turns;
  traffic = added ++ s.traffic;
  refused = s.refused + link_refusals old new;
  book = book;
}

-- The peer waited, took in what came and sent what was due; its link gained these records, the newest first. Only
-- where a write or a sync was refused in this turn the peer stopped, and then it sent nothing.
pub record TakesTurn (clock : ℕ) (old : PeerState) (added : List Record) (new : PeerState) : Type 0 where
  pub session : Session
  pub earlier : List Session
  pub was : old.sessions ≡ session ∷ earlier
  pub calls : MakesCalls old new
  pub sent : List Record
  pub gained : added ≡ sent ++ wait_records clock old
  pub went : AllByRecursion (WentAt (moment_of (history_of new.disk))) sent
  pub waited : new.orders.receive ≡ false
  pub book : LookUp
  pub is : new.sessions ≡ with_turn session added book old new ∷ earlier
  pub queue : new.queue ≡ queue_after_wait old
  pub goes_on : (new.is_running ≡ true) ⊎ ((new.is_running ≡ false) × (sent ≡ []) × (old.hard < new.hard))
