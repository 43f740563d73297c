use Rattle.std.proofs.Common.{◌≡◌, ◌≤◌, ◌+◌, ◌-◌}
use Rattle.pp_recorded.specs.Entries.{past, life_of}
use Rattle.pp_audit.specs.Counted.{counted}
use Rattle.pp_audit.specs.Debts.{is_left}
use Rattle.pp_audit.proofs.debts.leaves_few.Given as goal

abbrev pub invariant-runs : goal.invariant-runs
invariant-runs l = record {
  low : l.at ≤ l.last;
  same : counted (is_left l.debt l.stood l.descriptor (past l.entries) (life_of l.life)) l.at + l.room ≡ l.limit;
}

abbrev pub decreases-runs : goal.decreases-runs
decreases-runs l = l.last - l.at
