-- Laws of holdings, which a function of this crate states.
use Rattle.std.specs.Prelude.{◌≡◌, ℕ, ◌+◌, ◌≤◌, Bool, true, List, ◌++◌, length}
use Rattle.pp_terms.specs.disk.Disk.{DiskState, Throughout, moment_of}
use Rattle.pp_terms.specs.disk.Image.{StandsIn}
use Rattle.pp_terms.specs.disk.Sound.{IsSound}
use Rattle.pp_scan.specs.Look.{KeepsAll}
use Rattle.pp_store.specs.Store.{is_committed}
use Rattle.pp_promises.specs.Batches.{Batch, after_puts, after_read, CommitsInTime}
use Rattle.pp_holding.specs.declared.queue.Ticket.{Ticket}
use Rattle.pp_holding.specs.Queue.{most_tickets, with_tickets}
use Rattle.pp_holding.specs.Stock.{Stock, IsKept, Advances}
use Rattle.pp_holding.specs.Holding.{HoldingState, batch_of, AreTied}

-- What no call, two rows of calls and a reading of the disk do, is what a row of calls does.
pub record AdvancesCompose : Type 0 where
  pub none : (s : Stock) → Advances s s
  pub twice : (a b c : Stock) → Advances a b → Advances b c → Advances a c
  pub reading : (s : Stock) (disk : DiskState) → KeepsAll s.disk disk → Advances s (record s { disk = disk })

-- While a holding is kept each image is sound, so that what a crash leaves may be opened again.
abbrev pub KeptIsSound : Type 0
KeptIsSound = (since : ℕ) (s : Stock) → IsKept since s → Throughout s.disk.history since (IsSound s.store.descriptor)

-- Each chunk that is committed stands in every image from then on, whatever calls follow.
abbrev pub CommittedStays : Type 0
CommittedStays = (since : ℕ) (old new : Stock) → IsKept since old → Advances old new → (i : ℕ) → is_committed old.store i ≡ true
    → Throughout new.disk.history (moment_of old.disk.history) (λ image. StandsIn old.store.descriptor image i)

-- The puts of two parts of a datagram are those of the whole.
abbrev pub PutsCompose : Type 0
PutsCompose = (one two : List ℕ) (now : ℕ) (b : Batch) → after_puts (one ++ two) now b ≡ after_puts two now (after_puts one now b)

-- Puts at one moment and then the end of the event commit in time.
abbrev pub EventsAreInTime : Type 0
EventsAreInTime = (is_quiet : Bool) (stored : List ℕ) (now : ℕ) (old mid new : HoldingState) → AreTied old → old.store.live ≡ true
    → batch_of mid ≡ after_puts stored now (batch_of old) → batch_of new ≡ after_read is_quiet now (batch_of mid)
    → CommitsInTime is_quiet stored now (batch_of old) (batch_of new)

-- No ticket is dropped while there is room.
abbrev pub TicketsFit : Type 0
TicketsFit = (tickets more : List Ticket) → length tickets + length more ≤ most_tickets → with_tickets tickets more ≡ tickets ++ more
