use Rattle.std.proofs.Common.{◌≡◌, ◌≤◌}
use Rattle.pp_traffic.specs.Turns.{in_turns}
use Rattle.pp_recorded.proofs.Pasts.{first}
use Rattle.pp_audit.proofs.turns.in_turns.Given as goal

abbrev pub invariant-loop-place : goal.invariant-loop-place
invariant-loop-place l = record {
  within : l.end ≤ l.place;
  same : first l.end l.entries ≡ in_turns l.descriptor (first l.place l.entries);
}
