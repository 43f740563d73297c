-- A peer as contracts see it.
use Rattle.std.specs.Prelude.{List}
use Rattle.pp_peer.specs.declared.parts.Parts.{Parts}
use Rattle.pp_peer.specs.declared.speaking.Speaker.{Speaker}
use Rattle.pp_peer.specs.declared.dialling.Dial.{Dial}

-- All that it keeps, what its notes are put together with, and the addresses that it was told to dial.
pub record PeerState : Type 0 where
  pub parts : Parts
  pub speaker : Speaker
  pub dials : List Dial
