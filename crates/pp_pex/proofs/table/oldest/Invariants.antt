use Rattle.pp_pex.proofs.Tables.{IsOldestBelow}
use Rattle.pp_pex.proofs.table.oldest.Given as goal

abbrev pub invariant-loop-place : goal.invariant-loop-place
invariant-loop-place l = IsOldestBelow l.table l.place l.best
