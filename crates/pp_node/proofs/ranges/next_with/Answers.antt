use Rattle.std.proofs.Common.{arith}
use Rattle.pp_node.proofs.Spans.{one_more_not}
use Rattle.pp_node.proofs.ranges.next_with.Goals as goal

pub loop-i-init : goal.loop-i-init
loop-i-init c = λ k low lt same. absurd (omega (arith, low, lt))

pub returns-then-contains-held-clause-before : goal.returns-then-contains-held-clause-before
returns-then-contains-held-clause-before c = c.loop-i.invariant

pub loop-i-preserved : goal.loop-i-preserved
loop-i-preserved c = one_more_not c.args.set.now c.args.held c.contains.result c.args.from c.loop-i.i c.contains.ensures c.if-contains-held.false c.loop-i.invariant

pub returns-clause-before : goal.returns-clause-before
returns-clause-before c = λ k low lt same.
    c.loop-i.invariant k low (let past = c.loop-i-test.false in omega (arith, lt, past)) same
