use Rattle.std.proofs.Common.{◌≡◌, ◌≤◌}
use Rattle.pp_audit.specs.Ends.{failing_before}
use Rattle.pp_audit.specs.Clauses.{clause_of}
use Rattle.pp_recorded.proofs.Pasts.{first}
use Rattle.pp_audit.proofs.ends.failing_before.Given as goal

abbrev pub invariant-loop-place : goal.invariant-loop-place
invariant-loop-place l = record {
  few : l.count ≤ l.place;
  same : l.count ≡ failing_before (clause_of l.clause l.descriptor) (first l.place l.entries);
}
