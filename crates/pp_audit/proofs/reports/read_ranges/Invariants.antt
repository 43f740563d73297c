use Rattle.std.proofs.Common.{◌≡◌}
use Rattle.pp_audit.specs.Reports.{ranges_behind, ranges_of, left_behind}
use Rattle.pp_audit.proofs.reports.read_ranges.Given as goal

abbrev pub invariant-loop-number : goal.invariant-loop-number
invariant-loop-number l = left_behind l.walk (ranges_behind l.set l.walk.begun l.number) ≡ left_behind l.initial.walk (ranges_of l.set)
