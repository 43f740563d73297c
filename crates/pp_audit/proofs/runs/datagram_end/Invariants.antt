use Rattle.std.proofs.Common.{ℕ, ◌≤◌, ◌-◌, length}
use Rattle.std.specs.List.{AllByRecursion}
use Rattle.pp_audit.specs.Alike.{IsAlike}
use Rattle.pp_recorded.specs.Parts.{all, rest}
use Rattle.pp_audit.proofs.runs.datagram_end.Given as goal

abbrev pub invariant-messages : goal.invariant-messages
invariant-messages l = record {
  within : l.place ≤ length l.bytes;
  low : l.at ≤ l.end;
  high : l.end ≤ l.fn.end;
  same : (j : ℕ) → l.at ≤ j → j ≤ l.end → AllByRecursion (IsAlike l.at j) (rest l.descriptor l.bytes l.place) → AllByRecursion (IsAlike l.at j) (all l.descriptor l.bytes);
}

abbrev pub decreases-messages : goal.decreases-messages
decreases-messages l = length l.bytes - l.place
