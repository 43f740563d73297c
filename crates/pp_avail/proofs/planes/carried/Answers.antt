use Rattle.pp_avail.proofs.Digits.{added}
use Rattle.pp_avail.proofs.planes.carried.Goals as goal

pub returns : goal.returns
returns c = λ k. added c.args.plane.now c.args.digits k
