use Rattle.pp_world.proofs.MarkLaws.{mark_laws}
use Rattle.pp_world.proofs.laws_of_marks.Goals as goal

pub returns : goal.returns
returns c = mark_laws
