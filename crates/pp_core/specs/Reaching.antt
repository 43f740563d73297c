-- Which of the addresses that a peer was told to dial it reaches.
use Rattle.std.specs.Prelude.{◌≡◌, ◌⊎◌, ℕ, ◌-◌, ◌<◌, true, Some, None, List, map}
use Rattle.std.specs.List.{AllByRecursion}
use Rattle.pp_terms.specs.disk.Disk.{DiskState}
use Rattle.pp_terms.specs.format.Traffic.{LinkState}
use Rattle.pp_outside.specs.declared.link.Address.{Address}
use Rattle.pp_channels.specs.Seats.{channel_at, free_seat}
use Rattle.pp_lives.specs.Fars.{far_of}
use Rattle.pp_lives.specs.declared.lives.Far.{Far}
use Rattle.pp_peer.specs.declared.dialling.Dial.{Dial}
use Rattle.pp_peer.specs.declared.dialling.DialState.{DialState}
use Rattle.pp_peer.specs.declared.dialling.DialState.TheVariants.{New, Seated, Dropped}
use Rattle.pp_peer.specs.declared.parts.Parts.{Parts}
use Rattle.pp_peer.specs.Dialling.{has_channel}
use Rattle.pp_core.specs.Peers.{PeerState}
use Rattle.pp_core.specs.Turning.{Sends}

-- Of the address it was noticed less than 30 seconds ago that its channel was dropped, or that its handshake was refused.
abbrev pub IsResting : (now : ℕ) → DialState → Type 0
IsResting now New = ⊥
IsResting now Seated = ⊥
IsResting now (Dropped at) = now - at < 30_000_000

-- A channel has the address, or it rests, or no seat is free.
abbrev pub IsReached : Parts → Dial → Type 0
IsReached p dial = (has_channel p dial.address ≡ true) ⊎ (IsResting p.seats.moment dial.state ⊎ (free_seat p.seats.table ≡ None))

abbrev pub addresses_of : List Dial → List Address
addresses_of dials = map (λ dial. dial.address) dials

-- The peer goes on dialling the same addresses, and in the course of the flush each of them is reached once all is said. While chunks go
-- then, a channel whose other peer is known keeps its address.
pub record Reaches (old new : PeerState) (link later : LinkState) (disk left : DiskState) : Type 0 where
  pub refused : ℕ
  pub course : Sends refused old new link later disk left
  pub addresses : addresses_of new.dials ≡ addresses_of old.dials
  pub reached : AllByRecursion (IsReached course.sends.said.parts) new.dials
  pub known : (seat : ℕ) (far : Far) → far_of (channel_at course.sends.said.parts.seats.table seat) ≡ Some far
      → has_channel new.parts far.address ≡ true
