use Rattle.std.proofs.Common.{◌-◌, length}
use Rattle.pp_tree.proofs.Numerals.{IsRunSoFar}
use Rattle.pp_targets.proofs.form.number.Given as goal

abbrev pub invariant-loop-end : goal.invariant-loop-end
invariant-loop-end l = IsRunSoFar l.bytes l.at l.end l.value

abbrev pub decreases-loop-end : goal.decreases-loop-end
decreases-loop-end l = length l.bytes - l.end
