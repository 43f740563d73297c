-- Which addresses a learner dials, and which channels it drops.
use Rattle.std.specs.Prelude.{◌≡◌, ◌⊎◌, ℕ, ◌+◌, nat_lt, Bool, true, cond, Option, Some, None, MatchBool, option_map, position, List, [], ◌∷◌, slice_get, slice_set}
use Rattle.std.specs.List.{list_any}
use Rattle.pp_terms.specs.Count.{capped}
use Rattle.pp_counts.specs.Counts.{after_note}
use Rattle.pp_counts.specs.declared.note.Note.TheVariants as counts
use Rattle.pp_outside.specs.declared.link.Address.{Address}
use Rattle.pp_channels.specs.Seats.{Seats, channel_at, closed, dialled, free_seat, has_address, with_channel}
use Rattle.pp_channels.specs.Timing.{is_over}
use Rattle.pp_lives.specs.Sending.{with_datagram}
use Rattle.pp_draft.specs.declared.note.Note.TheVariants.{Handshake}
use Rattle.pp_learner.specs.Learners.{LearnerState}
use Rattle.pp_learner.specs.Sending.{SendsDue, Scene}
use Rattle.pp_learner.specs.declared.dials.Dial.{Dial}
use Rattle.pp_learner.specs.declared.due.Due.{Due}

-- ---- channels whose time is over

-- The channels at these seats are dropped, one after the other: each is the least whose time is over, until there is none.
abbrev pub Drops : (now : ℕ) → List ℕ → Seats → Seats → Type 0
Drops now [] old new = (new ≡ old) × (position (is_over now) old.channels ≡ None)
Drops now (seat ∷ seats) old new = (position (is_over now) old.channels ≡ Some seat) × Drops now seats (closed old seat) new

-- ---- an address

-- this peer's handshake to channel 0 of an address
abbrev pub dial_to : Address → (source : ℕ) → Due
dial_to address source = record { to = record { address = address; channel = 0 }; note = Handshake source }

-- the channels with one that is dialled
abbrev pub with_dial : Address → LearnerState → Seats
with_dial address p = with_channel (dialled address p.moment) p.lives

-- An address was dialled at the least free seat: its channel is there if the handshake was sent, else it was dropped again.
pub record Dials (address : Address) (moment : ℕ) (sent : Bool) (old new : Scene) : Type 0 where
  pub seat : ℕ
  pub free : free_seat old.parts.lives ≡ Some seat
  -- this peer's number for the channel
  pub source : ℕ
  pub local : option_map (λ c. c.local) (channel_at (with_dial address old.parts) seat) ≡ Some source
  pub sends : SendsDue old.parts.outbox (dial_to address source) moment sent old.link new.link
  pub is : new.parts ≡ record old.parts {
    lives = cond sent (with_datagram (with_dial address old.parts) seat true old.parts.moment) (closed (with_dial address old.parts) seat);
    counts = after_note (cond sent counts.Sent counts.SendFault) old.parts.counts;
  }

-- An address was dialled, and a channel has it until the next look; or all seats are in use.
abbrev pub Tries : Dial → (from : Option ℕ) → (moment : ℕ) → Scene → Scene → Type 0
Tries dial from moment old new =
    ((sent : Bool) × Dials dial.address moment sent old new × (from ≡ None))
    ⊎ ((free_seat old.parts.lives ≡ None) × (new ≡ old) × (from ≡ dial.from))

-- From when on an address without a channel may be dialled: where one had it when this peer last looked, 30 seconds from now on.
abbrev pub DialsFree : Option ℕ → Dial → (from : Option ℕ) → (moment : ℕ) → Scene → Scene → Type 0
DialsFree None dial from moment old new = (new ≡ old) × (from ≡ Some (capped (old.parts.moment + 30_000_000)))
DialsFree (Some at) dial from moment old new = MatchBool (nat_lt old.parts.moment at)
    ((new ≡ old) × (from ≡ dial.from)) (Tries dial from moment old new)

-- What becomes of an address, and from when on it may be dialled then: None where a channel has it.
abbrev pub StepsDial : Dial → (from : Option ℕ) → (moment : ℕ) → Scene → Scene → Type 0
StepsDial dial from moment old new = MatchBool (list_any (has_address dial.address) old.parts.lives.channels)
    ((new ≡ old) × (from ≡ None)) (DialsFree dial.from dial from moment old new)

-- This became of one of the addresses.
pub record DialsAt (moment i : ℕ) (old new : Scene) : Type 0 where
  pub dial : Dial
  pub there : slice_get old.parts.dials i ≡ Some dial
  pub from : Option ℕ
  pub mid : Scene
  pub steps : StepsDial dial from moment old mid
  pub is : new ≡ record mid { parts = record mid.parts { dials = slice_set mid.parts.dials i (record dial { from = from }) } }
