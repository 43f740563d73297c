-- Small runs that break a promise. On each of them the promise's premises hold, so none is empty.
use Rattle.std.specs.Prelude.{◌≡◌, ℕ, true, false, None, List, [], ◌∷◌, ◌++◌, length, drop, replicate}
use Rattle.pp_terms.specs.disk.Disk.{DiskState, History}
use Rattle.pp_terms.specs.format.Traffic.{LinkState, Record, Sent}
use Rattle.pp_terms.specs.tree.Book.{LookUp}
use Rattle.pp_traffic.specs.Committed.{AreCommitted, RequestsNone}
use Rattle.pp_traffic.specs.Keeping.{StoodThroughout}
use Rattle.pp_traffic.specs.Meter.{lets_send}
use Rattle.pp_traffic.specs.Tallied.{TookTurns, IsTallied}
use Rattle.pp_traffic.specs.Turns.{ClosesLast}
use Rattle.pp_promises.specs.Stored.{StoresAll}
use Rattle.pp_promises.specs.Served.{LeavesFew, ServesBut}
use Rattle.pp_promises.specs.Announced.{AcknowledgesAll, TellsAll}
use Rattle.pp_promises.specs.Answered.{LetsInBut, ChokesNone, KeepsUpBut}
use Rattle.pp_promises.specs.Asked.{DialsBut, AsksBut}
use Rattle.pp_promises.specs.Datagrams.{IsReadToEnd, IsWhole, PlansAll}
use Rattle.pp_promises.specs.Batches.{Batch, after_commit, CommitsInTime}
use Rattle.pp_promises.specs.RunExample.{quiet_tally, quiet_turns, empty, stored}
use Rattle.pp_promises.specs.Runs as run
use Rattle.pp_promises.specs.Runs.{past, alice, both, seven, hundred, two_hundred, two}

-- a book without an entry, and a disk without a byte
abbrev pub no_book : LookUp
no_book k j = None

abbrev pub no_bytes : List ℕ
no_bytes = []

-- a datagram with a byte behind it that begins no message
abbrev pub torn : Record
torn = Sent 1 alice (run.for 9 (run.have 0 6 ∷ []) ++ 13 ∷ [])

-- the first chunk is pending since a moment
abbrev pub pending_since : ℕ → Batch
pending_since moment = record { committed = empty.committed; pending = record { chunk = 0; put_at = moment } ∷ [] }

pub record BrokenPromises : Type 0 where
  -- one chunk alone is served, though the window has room; six are left, which one refusal doesn't excuse
  pub serves : (h : History) → ServesBut 0 seven (lets_send 1024) h (past run.served_one) → ⊥
  pub serves_but_one : (h : History) → LeavesFew 1 seven (lets_send 1024) h (past run.served_one) → ⊥
  -- what stood from the start isn't served
  pub serves_stood : (h : History) → ((i : ℕ) → StoodThroughout seven h i)
      → ServesBut 0 seven (lets_send 1024) h (past (run.opened_untold ++ run.asks_all)) → ⊥
  -- a chunk is announced to one channel and not to the other; the same chunks are told of again
  pub tells : (h : History) → TellsAll two_hundred h (past run.told_never) → ⊥
  pub tells_again : (h : History) → ((i : ℕ) → StoodThroughout two_hundred h i) → TellsAll two_hundred h (past run.told_twice) → ⊥
  -- 63 new ones are told of, where there are more
  pub tells_few : (h : History) → ((i : ℕ) → StoodThroughout two_hundred h i) → TellsAll two_hundred h (past run.told_63) → ⊥
  -- a chunk that came isn't acknowledged, or isn't stored
  pub acknowledges : AcknowledgesAll two no_book (past run.unacknowledged) → ⊥
  pub stores : StoresAll two no_book no_bytes (past run.proved) → ⊥
  pub stores_dialled : StoresAll two no_book no_bytes (past run.dialled_two) → ⊥
  -- a newcomer is not let in; a peer is choked at once; a channel is left in silence
  pub lets_in : LetsInBut 0 seven (past run.unanswered) → ⊥
  pub chokes_none : ChokesNone 0 seven (past run.choked_at_once) → ⊥
  pub keeps_up : KeepsUpBut 0 seven (past run.left_silent) → ⊥
  -- a closing handshake doesn't end the silence
  pub keeps_up_closed : KeepsUpBut 0 seven (past run.closed_silent) → ⊥
  -- a peer isn't dialled in the first turn; what a peer offers isn't asked for
  pub dials : DialsBut 0 hundred both (past run.dials_one) → ⊥
  pub asks : AsksBut 0 hundred no_bytes (past run.asks_too_few) → ⊥
  -- a seeder asks; a datagram isn't read to its end, or is too long; a channel is closed before the last turn; a chunk comes on no channel
  pub requests_none : RequestsNone hundred (past run.fetching) → ⊥
  pub whole : IsWhole seven torn → ⊥
  pub long : (r : Record) (bytes : List ℕ) → length bytes ≡ 16385 → IsReadToEnd seven r bytes → ⊥
  pub closes_last : ClosesLast seven (past run.closed_early) → ⊥
  pub plans : PlansAll seven (lets_send 1024) (past run.first_sent) → ⊥
  -- a chunk comes with a hash too many, or with one too few
  pub plans_more : PlansAll seven (lets_send 1024)
      (past (run.served_none ++ run.sends (run.hash 0 0 ∷ run.path_of_first ++ run.chunk 0 ∷ []))) → ⊥
  pub plans_less : PlansAll seven (lets_send 1024) (past (run.served_none ++ run.sends (drop 1 run.path_of_first ++ run.chunk 0 ∷ []))) → ⊥
  -- an announced chunk is in no set; a turn is lost though nothing was refused; a datagram isn't counted
  pub committed : (disk : DiskState) → AreCommitted seven disk (past run.opened) (replicate 7 false) → ⊥
  pub took : (seen : LinkState) → seen.faults ≡ 0 → TookTurns 3 seen seen (past quiet_turns) → ⊥
  pub tallied : IsTallied quiet_tally 3 (past run.opened) → ⊥
  -- more than 64 chunks wait; nothing is committed though a wait was quiet
  pub batches : CommitsInTime true [] 1000000 (stored 65) (stored 65) → ⊥
  pub batches_early : CommitsInTime false (0 ∷ []) 0 empty (after_commit (stored 1)) → ⊥
  -- a chunk that was stored is neither committed nor pending; one that was committed isn't any more, though it is pending
  pub batches_lost : CommitsInTime false (0 ∷ []) 0 empty empty → ⊥
  pub batches_forgotten : CommitsInTime false [] 0 (after_commit (stored 1)) (stored 1) → ⊥
  -- a pending chunk gets the moment of an event that didn't store it
  pub batches_reset : CommitsInTime false [] 50000 (pending_since 0) (pending_since 50000) → ⊥
