use Rattle.pp_avail.proofs.Digits.{taken_off}
use Rattle.pp_avail.proofs.planes.borrowed.Goals as goal

pub returns : goal.returns
returns c = λ k. taken_off c.args.plane.now c.args.digits k
