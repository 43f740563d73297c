use Rattle.std.proofs.Common.{take}
use Rattle.pp_outcome.specs.Announced.{AreAnnounced}
use Rattle.pp_outcome.proofs.announced.announced.Given as goal

abbrev pub invariant-loop-life : goal.invariant-loop-life
invariant-loop-life l = AreAnnounced l.descriptor (take l.life-index l.lives) l.set
