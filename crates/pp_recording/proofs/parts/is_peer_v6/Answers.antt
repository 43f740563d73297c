use Rattle.std.proofs.Common.{ℕ, List, subst}
use Rattle.hex.specs.Hex.{IsBytes}
use Rattle.pp_recording.proofs.parts.is_peer_v6.Goals as goal

pub returns : goal.returns
returns c = (
  λ told. (c.told-bytes, subst (λ (xs : List ℕ). IsBytes xs) c.as_slice.ensures c.is_port.ensures.bytes, c.is_port.ensures.port.0 told),
  λ is. c.is_port.ensures.port.1 is.2,
)
