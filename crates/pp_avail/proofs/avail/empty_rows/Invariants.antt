use Rattle.std.proofs.Common.{◌≡◌, false, replicate}
use Rattle.pp_avail.proofs.avail.empty_rows.Given as goal

abbrev pub invariant-loop : goal.invariant-loop
invariant-loop l = l.rows.items ≡ replicate l.counter (replicate l.fn.chunks false)
