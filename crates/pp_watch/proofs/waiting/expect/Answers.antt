use Rattle.std.proofs.Common.{refl, subst}
use Rattle.pp_watch.specs.Waiting.{FitsBuffer}
use Rattle.pp_watch.proofs.waiting.expect.Goals as goal

pub add-requires : goal.add-requires
add-requires c = (refl, subst FitsBuffer c.in-Some.is c.requires)
