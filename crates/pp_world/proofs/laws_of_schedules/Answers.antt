use Rattle.pp_world.proofs.Texts.{schedules_read_back}
use Rattle.pp_world.proofs.laws_of_schedules.Goals as goal

pub returns : goal.returns
returns c = schedules_read_back
