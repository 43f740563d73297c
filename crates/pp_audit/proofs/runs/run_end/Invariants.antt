use Rattle.std.proofs.Common.{ℕ, ◌≤◌}
use Rattle.pp_audit.specs.Alike.{AreAlike}
use Rattle.pp_recorded.proofs.Pasts.{first}
use Rattle.pp_audit.proofs.runs.run_end.Given as goal

abbrev pub invariant-loop-entry : goal.invariant-loop-entry
invariant-loop-entry l = record {
  low : l.at ≤ l.end;
  high : l.end ≤ l.fn.end;
  same : (j : ℕ) → l.at ≤ j → j ≤ l.end → AreAlike l.descriptor l.at j (first l.entry-index l.entries);
}
