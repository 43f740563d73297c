-- Which seats keep their upload slots in a flush.
use Rattle.std.specs.Prelude.{◌≡◌, ◌⊎◌, ℕ, ◌+◌, ◌<◌, ◌≤◌, Some, None, slice_get}
use Rattle.pp_requests.specs.Seats.{since}
use Rattle.pp_channels.specs.declared.channel.Channel.{Channel}
use Rattle.pp_seat.specs.Seats.{SeatState}
use Rattle.pp_seat.specs.Turns.{due_turn}
use Rattle.pp_seat.specs.declared.service.Turn.TheVariants.{Choke}
use Rattle.pp_peer.specs.declared.parts.Parts.{Parts}
use Rattle.pp_core.specs.Telling.{IsLasting}

-- 30 seconds passed since upload slots were last turned, and of the seats whose channel's time isn't over this one has its slot longest.
pub record IsTurned (seat moment : ℕ) (p : Parts) : Type 0 where
  pub rested : p.slots.turned + 30_000_000 ≤ p.seats.moment
  pub longest : (other m : ℕ) (c : Channel) → IsLasting other c p → since p.slots.slots other ≡ Some m
      → (moment < m) ⊎ ((moment ≡ m) × (seat ≤ other))

-- A seat has an upload slot since a moment; it doesn't wait for one, its channel's time isn't over, and no CHOKE is due there.
pub record HasSlot (seat moment : ℕ) (p : Parts) : Type 0 where
  pub channel : Channel
  pub lasting : IsLasting seat channel p
  pub known : SeatState
  pub messages : slice_get p.seats.seats seat ≡ Some known
  pub idle : due_turn known ≡ Some Choke → ⊥
  pub has : since p.slots.slots seat ≡ Some moment
  pub waits_not : since p.slots.waiting seat ≡ None

-- Each seat keeps an upload slot that it has so, but for the one that has it longest, once slots are to be turned.
abbrev pub KeepsSlots : Parts → Parts → Type 0
KeepsSlots old new = (seat moment : ℕ) → HasSlot seat moment old
    → (since new.slots.slots seat ≡ Some moment) ⊎ IsTurned seat moment old
