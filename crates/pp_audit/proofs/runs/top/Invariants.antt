use Rattle.std.proofs.Common.{◌≡◌}
use Rattle.pp_audit.specs.Alike as terms
use Rattle.pp_recorded.proofs.Pasts.{first}
use Rattle.pp_audit.proofs.runs.top.Given as goal

abbrev pub invariant-loop-entry : goal.invariant-loop-entry
invariant-loop-entry l = l.top ≡ terms.top l.descriptor (first l.entry-index l.entries)
