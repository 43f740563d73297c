use Rattle.std.proofs.Common.{arith}
use Rattle.pp_seat.proofs.Asking.{begins_some, some_more, all_asked, named_within}
use Rattle.pp_seat.proofs.own.ask.Goals as goal

pub loop-i-init : goal.loop-i-init
loop-i-init c = begins_some _ _ _ _ (omega arith)

pub loop-i-preserved : goal.loop-i-preserved
loop-i-preserved c =
    some_more c.args.range c.loop-i.i c.args.now c.args.own.now c.loop-i.own c.ask_one.new.own c.loop-i.invariant (omega arith) c.ask_one.ensures.named c.ask_one.ensures.exact

pub returns-clause-named : goal.returns-clause-named
returns-clause-named c = named_within c.args.range c.loop-i.i c.args.now c.args.own.now c.loop-i.own c.loop-i.invariant (omega arith)

pub returns-clause-exact : goal.returns-clause-exact
returns-clause-exact c can = all_asked c.args.range c.loop-i.i c.args.now c.args.own.now c.loop-i.own (c.loop-i.invariant.exact can) (omega arith)
