use Rattle.std.proofs.Common.{◌≡◌, length}
use Rattle.pp_value_tests.proofs.avail.picks_few_in_order.Given as goal

abbrev pub invariant-loop : goal.invariant-loop
invariant-loop l = length l.wanted ≡ 1048576
