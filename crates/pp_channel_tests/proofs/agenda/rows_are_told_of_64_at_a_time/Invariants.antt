use Rattle.std.proofs.Common.{◌≡◌, length}
use Rattle.pp_channel_tests.proofs.agenda.rows_are_told_of_64_at_a_time.Given as goal

abbrev pub invariant-loop-i : goal.invariant-loop-i
invariant-loop-i g l = length l.set ≡ 140
