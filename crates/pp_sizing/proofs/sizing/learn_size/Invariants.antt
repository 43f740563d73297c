use Rattle.std.proofs.Common.{length, ◌-◌}
use Rattle.pp_sizing.specs.Sizing.{scene}
use Rattle.pp_sizing.proofs.Loops.{HasTaken}
use Rattle.pp_sizing.proofs.sizing.learn_size.Given as goal

abbrev pub invariant-loop-taken : goal.invariant-loop-taken
invariant-loop-taken g l =
    HasTaken l.taken l.turns (scene l.initial.learner (g.L.Link.seen l.initial.link)) (scene l.learner (g.L.Link.seen l.link)) (length l.buffer)

abbrev pub decreases-loop-taken : goal.decreases-loop-taken
decreases-loop-taken g l = l.turns - l.taken
