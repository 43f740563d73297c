-- What a flush leaves unsent.
use Rattle.std.specs.Prelude.{◌≡◌, ℕ, ◌<◌, true, Some, slice_get}
use Rattle.pp_terms.specs.tree.Range.{has}
use Rattle.pp_traffic.specs.Meter.{has_room}
use Rattle.pp_channels.specs.Seats.{channel_at}
use Rattle.pp_lives.specs.Fars.{far_of}
use Rattle.pp_lives.specs.declared.lives.Far.{Far}
use Rattle.pp_seat.specs.Seats.{SeatState}
use Rattle.pp_peer.specs.declared.parts.Parts.{Parts}

-- A chunk could be sent on the channel of a seat: this peer's handshake was sent there, the other peer is proven, has a slot and asked for
-- the chunk, and its window has room for one more.
pub record IsSendable (seat i : ℕ) (p : Parts) : Type 0 where
  pub far : Far
  pub is_far : far_of (channel_at p.seats.table seat) ≡ Some far
  pub begun : far.begun ≡ true
  pub known : SeatState
  pub there : slice_get p.seats.seats seat ≡ Some known
  pub proven : known.proven ≡ true
  pub slot : known.slot ≡ true
  pub room : has_room known.window ≡ true
  pub content : i < known.told.chunks
  pub asked : has known.list i ≡ true

-- No chunk could.
abbrev pub LeavesNone : Parts → Type 0
LeavesNone p = (seat i : ℕ) → seat < 64 → IsSendable seat i p → ⊥
