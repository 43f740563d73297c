use Rattle.pp_world.proofs.Rehearsals.{rehearsals_read}
use Rattle.pp_world.proofs.laws_of_rehearsals.Goals as goal

pub returns : goal.returns
returns c = rehearsals_read
