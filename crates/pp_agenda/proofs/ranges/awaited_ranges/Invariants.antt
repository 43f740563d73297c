use Rattle.std.proofs.Common.{◌≡◌, ◌≤◌, ℕ, length, take}
use Rattle.pp_terms.specs.tree.Range.{has, IsRunsFrom}
use Rattle.pp_agenda.proofs.Awaiting.{is_both}
use Rattle.pp_agenda.proofs.ranges.awaited_ranges.Given as goal

abbrev pub invariant-loop-one : goal.invariant-loop-one
invariant-loop-one l = record {
  runs : IsRunsFrom 0 l.ranges;
  few : length l.ranges ≤ l.one-index;
  each : (i : ℕ) → has l.ranges i ≡ is_both (take l.one-index l.awaited) l.committed i;
}
