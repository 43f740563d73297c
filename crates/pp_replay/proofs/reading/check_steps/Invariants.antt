use Rattle.std.proofs.Common.{length}
use Rattle.pp_replay.proofs.StepLines.{AreSteps}
use Rattle.pp_replay.proofs.reading.check_steps.Given as goal

abbrev pub invariant-loop-row : goal.invariant-loop-row
invariant-loop-row l = AreSteps l.peers l.line l.text l.rest

abbrev pub decreases-loop-row : goal.decreases-loop-row
decreases-loop-row l = length l.rest
