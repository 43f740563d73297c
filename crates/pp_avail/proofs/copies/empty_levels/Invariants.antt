use Rattle.std.proofs.Common.{◌≡◌, false, replicate}
use Rattle.pp_avail.proofs.copies.empty_levels.Given as goal

abbrev pub invariant-loop : goal.invariant-loop
invariant-loop l = l.levels.items ≡ replicate l.counter (replicate l.fn.words false)
