use Rattle.std.proofs.Common.{◌≡◌, ◌≤◌, count_by}
use Rattle.pp_promises.specs.Answered.{opens}
use Rattle.pp_recorded.proofs.Pasts.{first}
use Rattle.pp_recorded.proofs.marks.openings.Given as goal

abbrev pub invariant-loop-entry : goal.invariant-loop-entry
invariant-loop-entry l = record {
  few : l.count ≤ l.entry-index;
  same : l.count ≡ count_by (opens l.descriptor) (first l.entry-index l.entries);
}
