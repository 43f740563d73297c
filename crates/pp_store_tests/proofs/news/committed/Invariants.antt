use Rattle.std.proofs.Common.{◌≡◌, length}
use Rattle.pp_store_tests.proofs.news.committed.Given as goal

abbrev pub invariant-loop-i : goal.invariant-loop-i
invariant-loop-i l = length l.set ≡ 20
