use Rattle.std.proofs.Common.{◌≡◌, length}
use Rattle.pp_value_tests.proofs.tree.sets.some.Given as goal

abbrev pub invariant-loop-i : goal.invariant-loop-i
invariant-loop-i l = length l.set ≡ 5000
