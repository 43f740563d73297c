use Rattle.std.proofs.Common.{arith}
use Rattle.pp_audit.proofs.ReportTexts.{walk_step, walk_some, walk_none}
use Rattle.pp_audit.proofs.reports.read_ranges.Goals as goal

pub loop-number-preserved : goal.loop-number-preserved
loop-number-preserved c =
    walk_step c.args.set.now c.loop-number.walk c.after_number-walk.result c.loop-number.number _ c.loop-number-test.true
    c.after_number-walk.ensures.begun c.after_number-walk.ensures.text c.loop-number.invariant

pub returns-then-last : goal.returns-then-last
returns-then-last c = record {
  is = walk_some c.args.set.now c.loop-number.walk c.after_number-last.result c.loop-number.number _ (omega arith)
      c.after_number-last.ensures.text c.loop-number.invariant c.if-last.true;
}

pub returns-else-last : goal.returns-else-last
returns-else-last c = record {
  is = walk_none c.args.set.now c.loop-number.walk c.after_number-last.result c.loop-number.number _ _ (omega arith)
      c.after_number-last.ensures.text c.loop-number.invariant c.if-last.false c.read.ensures;
}
