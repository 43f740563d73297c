use Rattle.std.proofs.Common.{◌≡◌, length}
use Rattle.pp_value_tests.proofs.avail.want_last_three.Given as goal

abbrev pub invariant-loop-i : goal.invariant-loop-i
invariant-loop-i l = length l.wanted ≡ 7
