use Rattle.std.proofs.Common.{◌+◌, ◌-◌, arith}
use Rattle.pp_ranges.proofs.Fronts.{one_passed}
use Rattle.pp_ranges.proofs.list.ended_below.Goals as goal

pub loop-n-preserved : goal.loop-n-preserved
loop-n-preserved c =
    one_passed c.args.i c.loop-n.n c.loop-n.count (c.loop-n.count + (c.last-in-loop-n.result - c.first.result + 1)) c.index-list-n.result
    c.args.list.now c.loop-n-test.true c.index-list-n.is (omega (arith, c.last.ensures.last, c.if-i-last.false))
    (omega (arith, c.last-in-loop-n.ensures.last, c.first.ensures.first)) c.loop-n.invariant
