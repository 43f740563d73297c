use Rattle.std.proofs.Common.{◌≡◌, ◌≤◌, drop}
use Rattle.pp_recorded.specs.Entries.{life_of}
use Rattle.pp_recorded.specs.Acts.{ahead}
use Rattle.pp_recorded.specs.Flying.{flight_in}
use Rattle.pp_recorded.proofs.flying.trimmed.Given as goal

abbrev pub invariant-acts : goal.invariant-acts
invariant-acts l = record {
  same : flight_in l.descriptor (life_of l.life) l.entries l.row ≡ flight_in l.descriptor (life_of l.life) l.entries l.fn.row;
  behind : drop l.row.count (ahead l.descriptor (life_of l.life) l.entries l.row.from)
      ≡ drop l.fn.row.count (ahead l.descriptor (life_of l.life) l.entries l.fn.row.from);
  few : l.row.count ≤ l.fn.row.count;
}

abbrev pub decreases-acts : goal.decreases-acts
decreases-acts l = l.row.count
