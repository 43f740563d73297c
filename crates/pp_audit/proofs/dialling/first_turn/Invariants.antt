use Rattle.std.proofs.Common.{◌≡◌, ◌≤◌}
use Rattle.pp_traffic.specs.Turns.{events}
use Rattle.pp_promises.specs.LastTurn.{first_turn}
use Rattle.pp_recorded.proofs.Pasts.{first}
use Rattle.pp_audit.proofs.dialling.first_turn.Given as goal

abbrev pub invariant-loop-place : goal.invariant-loop-place
invariant-loop-place l = record {
  few : l.events ≤ l.place;
  within : l.end ≤ l.place;
  counted : l.events ≡ events (first l.place l.entries);
  same : first l.end l.entries ≡ first_turn (first l.place l.entries);
}
