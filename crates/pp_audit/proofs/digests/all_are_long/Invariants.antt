use Rattle.pp_audit.specs.Digests.{AllAreLong}
use Rattle.pp_recorded.proofs.Pasts.{first}
use Rattle.pp_audit.proofs.digests.all_are_long.Given as goal

abbrev pub invariant-loop-entry : goal.invariant-loop-entry
invariant-loop-entry l = AllAreLong l.descriptor (first l.entry-index l.entries)
