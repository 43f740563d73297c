use Rattle.std.proofs.Common.{◌≡◌}
use Rattle.std.specs.List.{list_all}
use Rattle.pp_recorded.specs.Faults.{is_whole}
use Rattle.pp_recorded.proofs.Pasts.{first}
use Rattle.pp_audit.proofs.datagrams.are_whole.Given as goal

abbrev pub invariant-loop-entry : goal.invariant-loop-entry
invariant-loop-entry l = l.whole ≡ list_all (is_whole l.descriptor) (first l.entry-index l.entries)
