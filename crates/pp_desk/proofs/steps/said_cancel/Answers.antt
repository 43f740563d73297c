use Rattle.std.proofs.Common.{arith}
use Rattle.pp_desk.proofs.Saying.{gone_none, gone_more, gone_all}
use Rattle.pp_desk.proofs.steps.said_cancel.Goals as goal

pub loop-i-init : goal.loop-i-init
loop-i-init c = gone_none _ _ _ (omega arith)

pub loop-i-preserved : goal.loop-i-preserved
loop-i-preserved c = gone_more c.args.range c.loop-i.i c.args.seat.now c.loop-i.seat c.said_cancel.new.self c.loop-i.invariant c.said_cancel.ensures.rest c.said_cancel.ensures.taken

pub returns-clause-rest : goal.returns-clause-rest
returns-clause-rest c = c.loop-i.invariant.rest

pub returns-clause-gone : goal.returns-clause-gone
returns-clause-gone c = gone_all c.args.range c.loop-i.i c.args.seat.now c.loop-i.seat c.loop-i.invariant (omega arith)
