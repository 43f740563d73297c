-- What the messages that come on a channel do to a peer.
use Rattle.std.specs.Prelude.{◌≡◌, ℕ, ◌≤◌, ◌==◌, Bool, true, false, Option, Some, None, List, ◌++◌, length, drop, slice_get, slice_set}
use Rattle.pp_terms.specs.disk.Disk.{DiskState}
use Rattle.pp_terms.specs.format.Descriptor.{Descriptor}
use Rattle.pp_terms.specs.format.Messages.{Message, Handshake, messages_at}
use Rattle.pp_traffic.specs.Life.{closes}
use Rattle.pp_promises.specs.Batches.{after_puts}
use Rattle.pp_counts.specs.declared.counts.Counts.{Counts}
use Rattle.pp_counts.specs.declared.note.Note.{Note}
use Rattle.pp_counts.specs.declared.note.Note.TheVariants as notes
use Rattle.pp_store.specs.declared.admitting.Put.{Put}
use Rattle.pp_store.specs.declared.admitting.Put.TheVariants.{Stored, Held, Missing, Wrong, Length}
use Rattle.pp_channels.specs.Seats.{closed}
use Rattle.pp_holding.specs.Holding.{batch_of, stock_of}
use Rattle.pp_holding.specs.Stock.{Advances}
use Rattle.pp_seat.specs.Seats.{SeatState}
use Rattle.pp_seats.specs.Hearing.{ChangesSeat, HearsAll, IsRead}
use Rattle.pp_peer.specs.declared.parts.Parts.{Parts}
use Rattle.pp_counts.specs.Counts.{after_note}
use Rattle.pp_peer.specs.Standing.{KeepsContent, Fetches}

-- what is counted of bytes that came as a chunk
abbrev pub note_of : Put → Note
note_of Stored = notes.Stored
note_of Held = notes.Repeat
note_of (Missing node) = notes.Missing
note_of (Wrong node found kept) = notes.Wrong
note_of (Length found want) = notes.Wrong

-- the counts once a note was taken, or none
abbrev pub after_some : Option Note → Counts → Counts
after_some None k = k
after_some (Some note) k = after_note note k

-- the message closes the channel on which it comes
abbrev pub is_closing : Message → Bool
is_closing (Handshake source options) = source == 0
is_closing _ = false

-- the messages from a byte on
abbrev pub read_at : Descriptor → List ℕ → ℕ → List Message
read_at d bytes at = (messages_at d.method d.chunk at (drop at bytes)).read

-- The counts of turns, of datagrams that came and went, and of what was refused or couldn't be served stand as they were.
pub record KeepsCounts (old new : Counts) : Type 0 where
  pub turns : new.turns ≡ old.turns
  pub datagrams : new.datagrams ≡ old.datagrams
  pub sent : new.sent ≡ old.sent
  pub short : new.short ≡ old.short
  pub unheld : new.unheld ≡ old.unheld
  pub damaged : new.damaged ≡ old.damaged
  pub read_faults : new.read_faults ≡ old.read_faults
  pub send_faults : new.send_faults ≡ old.send_faults
  pub receive_faults : new.receive_faults ≡ old.receive_faults

-- Whatever was answered: nothing that was held is lost, the book keeps its entries, and the counts and the content are kept.
pub record Keeps (old new : Parts) (disk left : DiskState) : Type 0 where
  pub advances : Advances (stock_of old.holding disk) (stock_of new.holding left)
  pub counts : KeepsCounts old.counts new.counts
  pub content : KeepsContent old new

-- These chunks were stored.
pub record Stores (stored : List ℕ) (old new : Parts) : Type 0 where
  pub puts : batch_of new.holding ≡ after_puts stored old.seats.moment (batch_of old.holding)
  pub live : old.holding.store.live ≡ true → new.holding.store.live ≡ true

-- These messages were heard on a seat, and none of them closes its channel.
pub record Takes (seat : ℕ) (ms : List Message) (old new : Parts) (disk left : DiskState) : Type 0 where
  pub keeps : Keeps old new disk left
  pub heard : ChangesSeat seat (HearsAll old.seats.moment ms) old.seats new.seats
  pub stored : List ℕ
  pub stores : Stores stored old new
  pub fetches : Fetches old → Fetches new

-- Messages were heard on a seat: all of them, or those before the one that closes its channel.
pub record Hears (seat : ℕ) (rest : List Message) (is_closed : Bool) (old new : Parts) (disk left : DiskState) : Type 0 where
  pub heard : List Message
  pub takes : Takes seat heard old new disk left
  pub closing : is_closed ≡ closes rest
  pub whole : is_closed ≡ false → heard ≡ rest

-- The messages of a datagram were heard up to a byte.
pub record HearsTo (seat : ℕ) (d : Descriptor) (bytes : List ℕ) (start at : ℕ) (old new : Parts)
    (disk left : DiskState) : Type 0 where
  pub within : at ≤ length bytes
  pub heard : List Message
  pub takes : Takes seat heard old new disk left
  pub read : read_at d bytes start ≡ heard ++ read_at d bytes at
  pub closing : closes (read_at d bytes start) ≡ closes (read_at d bytes at)

-- The channel of a seat was dropped, and what was asked for there was given back.
pub record Closes (seat : ℕ) (old new : Parts) : Type 0 where
  pub before : SeatState
  pub after : SeatState
  pub there : slice_get old.seats.seats seat ≡ Some before
  pub is : new.seats ≡ record old.seats { table = closed old.seats.table seat; seats = slice_set old.seats.seats seat after }
  pub holding : new.holding ≡ old.holding
  pub counts : new.counts ≡ old.counts
  pub content : KeepsContent old new
  pub fetches : Fetches old → Fetches new

-- The messages of a datagram were heard on a seat, unless they close its channel; then the channel was dropped.
pub record Reads (seat : ℕ) (ms : List Message) (old new : Parts) (disk left : DiskState) : Type 0 where
  pub keeps : Keeps old new disk left
  pub read : IsRead seat ms old.seats new.seats
  pub stored : List ℕ
  pub stores : Stores stored old new
  pub fetches : Fetches old → Fetches new
