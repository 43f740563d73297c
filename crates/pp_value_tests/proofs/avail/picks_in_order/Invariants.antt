use Rattle.std.proofs.Common.{◌≡◌, length}
use Rattle.pp_value_tests.proofs.avail.picks_in_order.Given as goal

abbrev pub invariant-loop-i : goal.invariant-loop-i
invariant-loop-i l = length l.wanted ≡ 1048576
