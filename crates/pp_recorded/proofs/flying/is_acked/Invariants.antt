use Rattle.std.proofs.Common.{◌≡◌, take}
use Rattle.pp_recorded.specs.Entries.{life_of}
use Rattle.pp_recorded.specs.Acts.{ahead}
use Rattle.pp_recorded.specs.Flying.{acts_in, is_acked}
use Rattle.pp_recorded.proofs.flying.is_acked.Given as goal

abbrev pub invariant-acts : goal.invariant-acts
invariant-acts l =
    is_acked l.chunk (acts_in l.descriptor (life_of l.life) l.entries l.fn.row) ≡ is_acked l.chunk (take l.left (ahead l.descriptor (life_of l.life) l.entries l.at))

abbrev pub decreases-acts : goal.decreases-acts
decreases-acts l = l.left
