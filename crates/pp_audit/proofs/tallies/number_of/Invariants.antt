use Rattle.std.proofs.Common.{◌≡◌, ◌≤◌, count_by}
use Rattle.pp_audit.specs.Tallies.{is_kind}
use Rattle.pp_recorded.proofs.Pasts.{first}
use Rattle.pp_audit.proofs.tallies.number_of.Given as goal

abbrev pub invariant-loop-entry : goal.invariant-loop-entry
invariant-loop-entry l = record {
  few : l.count ≤ l.entry-index;
  same : l.count ≡ count_by (is_kind l.kind) (first l.entry-index l.entries);
}
