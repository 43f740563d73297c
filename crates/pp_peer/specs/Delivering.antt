-- What chunks that go leave of the seats and their channels, and why others didn't go.
use Rattle.std.specs.Prelude.{◌≡◌, ◌⊎◌, ℕ, ◌+◌, ◌-◌, ◌^◌, ◌<◌, ◌≤◌, true, Option, Some, None, List, ◌∷◌, ◌++◌, slice_get}
use Rattle.std.specs.List.{AllByRecursion}
use Rattle.pp_terms.specs.disk.Disk.{IsKnown}
use Rattle.pp_terms.specs.format.Traffic.{Record, Sent}
use Rattle.pp_terms.specs.tree.Book.{LookUp}
use Rattle.pp_terms.specs.tree.Tree.{Node}
use Rattle.pp_tree.specs.Book.{entry}
use Rattle.pp_outside.specs.Outside.{address_of}
use Rattle.pp_channels.specs.Seats.{channel_at}
use Rattle.pp_channels.specs.declared.channel.Channel.{Channel}
use Rattle.pp_lives.specs.Fars.{far_of}
use Rattle.pp_lives.specs.declared.lives.Far.{Far}
use Rattle.pp_draft.specs.Datagrams.{IsDatagram, delivery}
use Rattle.pp_scan.specs.Holding.{is_there}
use Rattle.pp_store.specs.Store.{is_committed}
use Rattle.pp_seat.specs.Seats.{SeatState}
use Rattle.pp_seats.specs.Standing.{SeatsState}
use Rattle.pp_peer.specs.Flushing.{Scene}

-- ---- what was sent

-- A record is a chunk behind hashes, to the peer of a seat's channel.
pub record IsDelivery (seat : ℕ) (p : SeatsState) (r : Record) : Type 0 where
  pub far : Far
  pub is_far : far_of (channel_at p.table seat) ≡ Some far
  pub book : LookUp
  pub nodes : List Node
  pub chunk : ℕ
  pub content : List ℕ
  pub bytes : List ℕ
  pub written : IsDatagram p.descriptor far.number (delivery book nodes chunk p.moment content) bytes
  pub moment : ℕ
  pub is : r ≡ Sent moment (address_of far.address) bytes

-- One of the records is such a chunk.
pub record HasDelivery (seat : ℕ) (p : SeatsState) (added : List Record) : Type 0 where
  pub newer : List Record
  pub here : Record
  pub older : List Record
  pub among : added ≡ newer ++ here ∷ older
  pub delivery : IsDelivery seat p here

-- ---- what is left

-- A seat is as it was, but for the chunks that its channel's peer asked for, and for those that fly.
abbrev pub IsServedAt : Option SeatState → Option SeatState → Type 0
IsServedAt None new = new ≡ None
IsServedAt (Some old) new = (left : SeatState) × (new ≡ Some left) × (left ≡ record old { list = left.list; window = left.window })

-- A chunk went on a seat's channel at the moment, and that is noted there.
pub record IsWritten (seat : ℕ) (old new : SeatsState) (added : List Record) : Type 0 where
  pub channel : Channel
  pub there : channel_at old.table seat ≡ Some channel
  pub after : channel_at new.table seat ≡ Some (record channel { wrote = old.moment })
  pub delivery : HasDelivery seat old added

-- The records are chunks' deliveries alone. Seats and channels are left so; a channel on which none went is as it was.
pub record ServesAlone (old new : SeatsState) (added : List Record) : Type 0 where
  pub swarm : new.descriptor ≡ old.descriptor
  pub moment : new.moment ≡ old.moment
  pub states : (seat : ℕ) → IsServedAt (slice_get old.seats seat) (slice_get new.seats seat)
  pub channels : (seat : ℕ) → (channel_at new.table seat ≡ channel_at old.table seat) ⊎ IsWritten seat old new added
  pub deliveries : AllByRecursion (λ r. (seat : ℕ) × IsDelivery seat old r) added

-- ---- what was given up

-- What is committed reads as the book has it, of a disk that is honest and tells.
pub record ReadsRight (s : Scene) : Type 0 where
  pub known : IsKnown s.disk
  pub there : (i : ℕ) → is_committed s.parts.holding.store i ≡ true
      → is_there s.parts.holding.store.descriptor s.disk.history.reads (entry s.parts.holding.book) i ≡ true

-- As many calls as were given up were refused by the link or the disk, where both counts tell and what is committed reads right.
abbrev pub AreRefused : (many : ℕ) → Scene → Scene → Type 0
AreRefused many old new = ReadsRight old → new.link.faults < 2 ^ 64 - 1 → new.disk.faults < 2 ^ 64 - 1
    → old.link.faults + old.disk.faults + many ≤ new.link.faults + new.disk.faults
