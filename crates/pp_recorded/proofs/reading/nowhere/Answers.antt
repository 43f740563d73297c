use Rattle.std.proofs.Common.{length, arith}
use Rattle.pp_recorded.proofs.Messages.{rest_end}
use Rattle.pp_recorded.proofs.reading.nowhere.Goals as goal

pub returns-clause-none : goal.returns-clause-none
returns-clause-none c = λ d. rest_end d c.args.bytes.now (length c.args.bytes.now) (omega arith)
