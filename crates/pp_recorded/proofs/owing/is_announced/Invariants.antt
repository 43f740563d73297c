use Rattle.std.proofs.Common.{◌≡◌}
use Rattle.pp_promises.specs.Served as terms
use Rattle.pp_recorded.proofs.Pasts.{first}
use Rattle.pp_recorded.proofs.owing.is_announced.Given as goal

abbrev pub invariant-loop-entry : goal.invariant-loop-entry
invariant-loop-entry l = l.found ≡ terms.is_announced l.descriptor l.chunk (first l.entry-index l.entries)
