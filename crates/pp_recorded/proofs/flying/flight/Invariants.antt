use Rattle.std.proofs.Common.{◌+◌, ◌≤◌, take}
use Rattle.pp_recorded.specs.Entries.{life_of}
use Rattle.pp_recorded.specs.Acts.{ahead}
use Rattle.pp_recorded.specs.Flying.{flight_in, flight_of}
use Rattle.pp_recorded.proofs.Rows.{IsCounted}
use Rattle.pp_recorded.proofs.flying.flight.Given as goal

abbrev pub invariant-acts : goal.invariant-acts
invariant-acts l = record {
  room : l.flight.total + l.left ≤ l.fn.row.count;
  few : l.flight.hits ≤ l.flight.total;
  counted : IsCounted l.first l.last l.flight (flight_of (take l.left (ahead l.descriptor (life_of l.life) l.entries l.at)))
      (flight_in l.descriptor (life_of l.life) l.entries l.fn.row);
}

abbrev pub decreases-acts : goal.decreases-acts
decreases-acts l = l.left
