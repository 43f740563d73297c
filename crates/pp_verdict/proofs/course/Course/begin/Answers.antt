use Rattle.std.proofs.Common.{refl}
use Rattle.pp_verdict.proofs.course.Course.begin.Goals as goal

pub returns : goal.returns
returns c = λ d life some. record { clock = refl; signs = c.none-self.ensures d life; story = c.begin.ensures d some.0 some.1 }
