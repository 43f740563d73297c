use Rattle.std.proofs.Common.{◌≡◌, ◌+◌, ◌≤◌, take}
use Rattle.pp_recorded.specs.Entries.{life_of}
use Rattle.pp_recorded.specs.Acts.{ahead}
use Rattle.pp_recorded.specs.Flying.{acts_in, passed}
use Rattle.pp_recorded.proofs.flying.passed.Given as goal

abbrev pub invariant-acts : goal.invariant-acts
invariant-acts l = record {
  few : l.count + l.left ≤ l.fn.row.count;
  same : passed (acts_in l.descriptor (life_of l.life) l.entries l.fn.row) ≡ l.count + passed (take l.left (ahead l.descriptor (life_of l.life) l.entries l.at));
}

abbrev pub decreases-acts : goal.decreases-acts
decreases-acts l = l.left
