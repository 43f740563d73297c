-- Which addresses a peer dials.
use Rattle.std.specs.Prelude.{◌≡◌, ◌⊎◌, ℕ, ◌-◌, ◌<◌, ◌≤◌, nat_le, nat_lt, Bool, true, false, Option, Some, None, List, [], ◌∷◌, MatchBool, MatchOption}
use Rattle.std.specs.List.{list_any}
use Rattle.pp_terms.specs.disk.Disk.{moment_of}
use Rattle.pp_outside.specs.declared.link.Address.{Address}
use Rattle.pp_channels.specs.Seats.{has_address, used_of}
use Rattle.pp_peer.specs.declared.dialling.Dial.{Dial}
use Rattle.pp_peer.specs.declared.dialling.DialState.{DialState}
use Rattle.pp_peer.specs.declared.dialling.DialState.TheVariants.{New, Seated, Dropped}
use Rattle.pp_peer.specs.declared.parts.Parts.{Parts}
use Rattle.pp_peer.specs.Flushing.{Scene}
use Rattle.pp_peer.specs.Greeting.{IsDialled, IsNotDialled}

-- A handshake went to an address, or was refused; or a channel has it, or all seats are in use.
abbrev pub Tries : Address → Option Bool → Scene → Scene → Type 0
Tries to sent old new = (new.disk ≡ old.disk) × MatchOption sent
    (IsNotDialled to old.parts new.parts old.link new.link)
    (λ took. IsDialled to (moment_of old.disk.history) took old.parts new.parts old.link new.link)

-- The seats, the counts and the queue of suggested addresses changed alone.
abbrev pub OnlyDials : Parts → Parts → Type 0
OnlyDials old new = new ≡ record old {
  seats = new.seats;
  counts = new.counts;
  pex = record old.pex { queue = new.pex.queue };
}

-- ---- the addresses that a peer was told to dial

-- one that wasn't dialled yet
abbrev pub undialled : Address → Dial
undialled a = record { address = a; state = New }

-- a channel has the address
abbrev pub has_channel : Parts → Address → Bool
has_channel p a = list_any (has_address a) p.seats.table.channels

-- An address without a channel is to be dialled: at once, and again 30 seconds after it was noticed that its channel was dropped.
abbrev pub is_due : ℕ → DialState → Bool
is_due now New = true
is_due now Seated = false
is_due now (Dropped at) = nat_le 30_000_000 (now - at)

-- what is known of an address without a channel that isn't to be dialled
abbrev pub noticed : ℕ → DialState → DialState
noticed now New = New
noticed now Seated = Dropped now
noticed now (Dropped at) = Dropped at

-- what is known of one after a handshake went there, or was refused, or there was no seat
abbrev pub after_dial : ℕ → DialState → Option Bool → DialState
after_dial now state None = state
after_dial now state (Some true) = Seated
after_dial now state (Some false) = Dropped now

-- What becomes of one of the addresses: it is dialled where no channel has it and that is due.
abbrev pub StepsDial : Dial → DialState → Scene → Scene → Type 0
StepsDial dial state old new = MatchBool (has_channel old.parts dial.address)
    ((new ≡ old) × (state ≡ Seated))
    (MatchBool (is_due old.parts.seats.moment dial.state)
    ((sent : Option Bool) × Tries dial.address sent old new × (state ≡ after_dial old.parts.seats.moment dial.state sent))
    ((new ≡ old) × (state ≡ noticed old.parts.seats.moment dial.state)))

-- This becomes of each of them, in order.
abbrev pub DialsEach : List Dial → List Dial → Scene → Scene → Type 0
DialsEach [] [] old new = new ≡ old
DialsEach [] (left ∷ lefts) old new = ⊥
DialsEach (dial ∷ dials) [] old new = ⊥
DialsEach (dial ∷ dials) (left ∷ lefts) old new =
    (mid : Scene) × (left.address ≡ dial.address) × StepsDial dial left.state old mid × DialsEach dials lefts mid new

-- ---- the addresses that were suggested

-- the peer with another queue of them
abbrev pub with_queue : List Address → Scene → Scene
with_queue queue s = record s { parts = record s.parts { pex = record s.parts.pex { queue = queue } } }

-- The address that was suggested first was taken out and dialled, while fewer than 32 seats were in use.
pub record DialsFirst (old new : Scene) : Type 0 where
  pub address : Address
  pub rest : List Address
  pub first : old.parts.pex.queue ≡ address ∷ rest
  pub few : used_of old.parts.seats.table < 32
  pub sent : Option Bool
  pub tries : Tries address sent (with_queue rest old) new

-- Nothing was suggested, or 32 seats and more are in use.
abbrev pub HasNoneToDial : Parts → Type 0
HasNoneToDial p = (p.pex.queue ≡ []) ⊎ (32 ≤ used_of p.seats.table)

-- The addresses in the queue were taken out and dialled, in order, while fewer than 32 seats were in use.
abbrev pub DialsSuggested : List Address → Scene → Scene → Type 0
DialsSuggested [] old new = new ≡ old
DialsSuggested (address ∷ queue) old new = MatchBool (nat_lt (used_of old.parts.seats.table) 32)
    ((sent : Option Bool) × (mid : Scene) × Tries address sent (with_queue queue old) mid × DialsSuggested queue mid new)
    (new ≡ old)

-- ---- all of them

-- Each address that the peer was told to dial was dialled where that was due, and then those that were suggested.
abbrev pub DialsAll : List Dial → List Dial → Scene → Scene → Type 0
DialsAll dials left old new = (mid : Scene) × DialsEach dials left old mid × DialsSuggested mid.parts.pex.queue mid new
