use Rattle.std.proofs.Common.{◌≡◌, ◌≤◌}
use Rattle.pp_audit.specs.Ends.{turn_start}
use Rattle.pp_recorded.proofs.Pasts.{first}
use Rattle.pp_audit.proofs.turns.turn_start.Given as goal

abbrev pub invariant-loop-place : goal.invariant-loop-place
invariant-loop-place l = record {
  within : l.start ≤ l.place;
  same : l.start ≡ turn_start (first l.place l.entries);
}
