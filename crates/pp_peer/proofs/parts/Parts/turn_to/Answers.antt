use Rattle.pp_peer.proofs.Flushed.{flushes_none}
use Rattle.pp_peer.proofs.parts.Parts.turn_to.Goals as goal

pub returns-then-not-far-clause-flushes : goal.returns-then-not-far-clause-flushes
returns-then-not-far-clause-flushes g c = flushes_none _
