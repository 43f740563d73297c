use Rattle.std.proofs.Common.{arith}
use Rattle.pp_plan.proofs.Words.{tells_some}
use Rattle.pp_plan.proofs.tier.has_some.Goals as goal

pub returns : goal.returns
returns c = tells_some c.args.words.now c.args.w (omega (arith, c.type_inv.words c.args.w))
