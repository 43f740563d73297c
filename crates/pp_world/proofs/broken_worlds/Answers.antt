use Rattle.pp_world.proofs.BrokenWorlds.{broken_worlds}
use Rattle.pp_world.proofs.broken_worlds.Goals as goal

pub returns : goal.returns
returns c = broken_worlds
