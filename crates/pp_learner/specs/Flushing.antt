-- What a learner sends in one turn.
use Rattle.std.specs.Prelude.{◌≡◌, ◌⊎◌, ℕ, ◌<◌, ◌≤◌, Bool, true, false, Some, unwrap_or, List, ◌∷◌, ◌++◌, length}
use Rattle.std.specs.List.{AllByRecursion, list_all}
use Rattle.pp_terms.specs.Count.{HasRisen}
use Rattle.pp_terms.specs.format.Descriptor.{Descriptor}
use Rattle.pp_terms.specs.format.Messages as messages
use Rattle.pp_terms.specs.format.Messages.{Message}
use Rattle.pp_terms.specs.format.Traffic.{Address, Record, Sent, GainsRecords}
use Rattle.pp_outside.specs.Outside.{address_of}
use Rattle.pp_channels.specs.Seats.{channel_at}
use Rattle.pp_channels.specs.Timing.{is_over}
use Rattle.pp_channels.specs.declared.channel.Channel.{Channel}
use Rattle.pp_lives.specs.Reading.{is_proven}
use Rattle.pp_draft.specs.declared.note.Note.{Note}
use Rattle.pp_draft.specs.declared.note.Note.TheVariants.{Request, Close}
use Rattle.pp_draft.specs.Notes.{Says}
use Rattle.pp_draft.specs.Datagrams.{IsDatagram}
use Rattle.pp_learner.specs.Reading.{row_at}
use Rattle.pp_learner.specs.Learners.{LearnerState}
use Rattle.pp_learner.specs.Sending.{Scene, SpeaksAt, PartsAt, EachBelow, asks}
use Rattle.pp_learner.specs.Dialling.{Drops, DialsAt}

-- Channels whose time is over were dropped; the addresses were dialled for which that was due, in order; and then went what was due on
-- each channel, by rising seat.
pub record Flushes (moment : ℕ) (old new : Scene) : Type 0 where
  pub dropped : LearnerState
  pub seats : List ℕ
  pub drops : Drops old.parts.moment seats old.parts.lives dropped.lives
  pub dropped_is : dropped ≡ record old.parts { lives = dropped.lives }
  pub mid : Scene
  pub dials : EachBelow (length old.parts.dials) (DialsAt moment) (record { parts = dropped; link = old.link }) mid
  pub speaks : EachBelow 64 (SpeaksAt moment) mid new

-- A closing handshake went on each proven channel, by rising seat.
abbrev pub Closes : (moment : ℕ) → Scene → Scene → Type 0
Closes moment old new = EachBelow 64 (PartsAt moment) old new

-- ---- the same, plainly

-- a handshake, or a REQUEST
abbrev pub is_modest : Message → Bool
is_modest (messages.Handshake source options) = true
is_modest (messages.Request span) = true
is_modest _ = false

-- The record is of a datagram that was sent, whose messages are handshakes and REQUESTs alone.
pub record IsModest (d : Descriptor) (moment : ℕ) (r : Record) : Type 0 where
  pub receiver : Address
  pub channel : ℕ
  pub messages : List Message
  pub bytes : List ℕ
  pub is : r ≡ Sent moment receiver bytes
  pub written : IsDatagram d channel messages bytes
  pub modest : list_all is_modest messages ≡ true

-- The link gained such records alone, and no call of it but sendings was made.
pub record SendsModest (moment : ℕ) (old new : Scene) : Type 0 where
  pub added : List Record
  pub gained : GainsRecords old.link.traffic added new.link.traffic
  pub modest : AllByRecursion (IsModest old.parts.outbox moment) added
  pub nexts : new.link.nexts ≡ old.link.nexts
  pub bound : new.link.bound ≡ old.link.bound
  pub later : old.link.faults ≤ new.link.faults

-- A datagram of the note went to the other peer's number on a channel, among others.
pub record IsSaid (moment : ℕ) (c : Channel) (note : Note) (old new : Scene) : Type 0 where
  pub messages : List Message
  pub said : Says old.parts.outbox note messages
  pub bytes : List ℕ
  pub written : IsDatagram old.parts.outbox (unwrap_or c.remote 0) messages bytes
  pub newer : List Record
  pub older : List Record
  pub gained : GainsRecords old.link.traffic (newer ++ Sent moment (address_of c.address) bytes ∷ older) new.link.traffic

-- the datagram went, or the link refused something
abbrev pub IsSaidUnless : (moment : ℕ) → Channel → Note → Scene → Scene → Type 0
IsSaidUnless moment c note old new = IsSaid moment c note old new ⊎ HasRisen old.link.faults new.link.faults

abbrev pub request_of : ℕ → Note
request_of chunk = Request (record { first = chunk; last = chunk })

-- On each proven channel whose time isn't over, where the other peer doesn't choke, offers chunks and wasn't asked in the last 10
-- seconds, the greatest chunk that it offers was asked for, unless the link refused something.
abbrev pub AsksEach : (moment : ℕ) → Scene → Scene → Type 0
AsksEach moment old new = (seat chunk : ℕ) (c : Channel) → seat < 64 → channel_at old.parts.lives seat ≡ Some c
    → is_proven c ≡ true → is_over old.parts.moment (Some c) ≡ false
    → asks old.parts.moment (row_at old.parts.rows seat) ≡ Some chunk → IsSaidUnless moment c (request_of chunk) old new

-- On each proven channel a closing handshake went, unless the link refused something.
abbrev pub ClosesEach : (moment : ℕ) → Scene → Scene → Type 0
ClosesEach moment old new = (seat : ℕ) (c : Channel) → seat < 64 → channel_at old.parts.lives seat ≡ Some c
    → is_proven c ≡ true → IsSaidUnless moment c Close old new
