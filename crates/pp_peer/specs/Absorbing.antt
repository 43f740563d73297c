-- What an event does to a peer.
use Rattle.std.specs.Prelude.{◌≡◌, ℕ, nat_lt, Bool, true, false, if◌then◌else◌, Option, Some, None, List, ◌∷◌, length}
use Rattle.pp_terms.specs.Count.{one_more}
use Rattle.pp_terms.specs.disk.Disk.{DiskState}
use Rattle.pp_terms.specs.format.Traffic.{Record}
use Rattle.pp_promises.specs.Batches.{after_puts, CommitsInTime}
use Rattle.pp_counts.specs.declared.counts.Counts.{Counts}
use Rattle.pp_counts.specs.declared.note.Note.{Note}
use Rattle.pp_counts.specs.declared.note.Note.TheVariants as notes
use Rattle.pp_outside.specs.declared.link.Event.{Event}
use Rattle.pp_outside.specs.declared.link.Event.TheVariants.{Datagram, Quiet}
use Rattle.pp_lives.specs.declared.arriving.Arrival.{Arrival}
use Rattle.pp_lives.specs.declared.arriving.Arrival.TheVariants as arrivals
use Rattle.pp_holding.specs.Holding.{batch_of, stock_of}
use Rattle.pp_holding.specs.Stock.{Advances}
use Rattle.pp_seats.specs.Standing.{Setting}
use Rattle.pp_seats.specs.Standing as seats
use Rattle.pp_seats.specs.Hearing.{IsRead, Ready}
use Rattle.pp_peer.specs.declared.parts.Parts.{Parts}
use Rattle.pp_peer.specs.Standing.{KeepsContent}
use Rattle.pp_peer.specs.Taking.{read_at, KeepsCounts}

-- what is counted of a datagram before its messages are heard
abbrev pub counted : Arrival → Option Note
counted arrivals.Short = Some notes.Short
counted arrivals.NoGreeting = Some notes.Stranger
counted arrivals.Unwelcome = Some notes.RefusedHandshake
counted (arrivals.Again seat) = None
counted (arrivals.Late seat) = Some notes.RefusedHandshake
counted arrivals.Unseated = Some notes.NoSeat
counted (arrivals.Opened seat next) = None
counted arrivals.NoChannel = Some notes.Stranger
counted (arrivals.NoReply seat) = Some notes.Stranger
counted (arrivals.Cut seat) = Some notes.Cut
counted (arrivals.Differs seat) = Some notes.RefusedHandshake
counted (arrivals.Given seat) = None
counted (arrivals.Replied seat) = None
counted (arrivals.Heard seat) = None

-- nothing came
abbrev pub is_quiet : Event → Bool
is_quiet (Datagram sender len at) = false
is_quiet (Quiet at) = true

-- the counts with a datagram of fewer than four bytes
abbrev pub with_short : List ℕ → Counts → Counts
with_short bytes k = record k { short = if nat_lt (length bytes) 4 then one_more k.short else k.short }

-- the counts with an event: a wait ended, and maybe a datagram came
abbrev pub with_event : Event → List ℕ → Counts → Counts
with_event (Datagram sender len at) bytes k =
    with_short bytes (record k { turns = one_more k.turns; datagrams = one_more k.datagrams })
with_event (Quiet at) bytes k = record k { turns = one_more k.turns }

-- Whatever was answered: nothing that was held is lost, the book keeps its entries, no counts but these were raised, or those of
-- arrivals and messages, and the peer's content stays.
pub record Advanced (counts : Counts) (old new : Parts) (disk left : DiskState) : Type 0 where
  pub advances : Advances (stock_of old.holding disk) (stock_of new.holding left)
  pub counts_are : KeepsCounts counts new.counts
  pub content : KeepsContent old new

-- What waits for a commit is what waited and what was stored at the moment.
pub record Stocks (old new : Parts) : Type 0 where
  pub stored : List ℕ
  pub puts : batch_of new.holding ≡ after_puts stored new.seats.moment (batch_of old.holding)
  pub live : old.holding.store.live ≡ true → new.holding.store.live ≡ true

-- The messages that are to be heard of a datagram were heard on its seat.
abbrev pub IsHeard : List ℕ → Arrival → Parts → Parts → Type 0
IsHeard bytes (arrivals.Opened seat next) old new = IsRead seat (read_at old.seats.descriptor bytes next) old.seats new.seats
IsHeard bytes (arrivals.Replied seat) old new = IsRead seat (read_at old.seats.descriptor bytes 4) old.seats new.seats
IsHeard bytes (arrivals.Heard seat) old new = IsRead seat (read_at old.seats.descriptor bytes 4) old.seats new.seats
IsHeard bytes _ old new = new.seats ≡ old.seats

-- Whatever the seats stood for, they stand for it with the record once the peer looks up.
abbrev pub Readies : Record → Parts → Parts → Type 0
Readies r old new = (x : Setting) (most : ℕ) (past : List Record) → seats.StandsFor x most old.seats past
    → Ready x most new.seats r past

-- The seats stand for what came too.
abbrev pub KeepsSeats : Record → Parts → Parts → Type 0
KeepsSeats r old new = (x : Setting) (most : ℕ) (past : List Record) → seats.StandsFor x most old.seats past
    → seats.StandsFor x most new.seats (r ∷ past)

-- Chunks were stored at the moment, and committed as a run promises.
pub record InTime (quiet : Bool) (old new : Parts) : Type 0 where
  pub stored : List ℕ
  pub in_time : CommitsInTime quiet stored new.seats.moment (batch_of old.holding) (batch_of new.holding)
