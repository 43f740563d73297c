use Rattle.std.proofs.Common.{Bool, false, get_or, ap, ◌∙◌, arith}
use Rattle.std.specs.Prelude.{◌||◌}
use Rattle.pp_outside.specs.MemoryLink.{in_order}
use Rattle.pp_outcome.proofs.Gains.{record_more, records_all}
use Rattle.pp_outcome.proofs.announced.add_link.Goals as goal

pub loop-n-preserved : goal.loop-n-preserved
loop-n-preserved c = record {
  size = c.add_record.ensures.size ∙ c.loop-n.invariant.size;
  each = λ i lt. record_more c.args.descriptor.now (in_order c.args.link.now) c.loop-n.n i (get_or c.args.set.now i false)
      (get_or c.loop-n.set i false) (get_or c.add_record.new.set i false) (c.loop-n.invariant.each i lt)
      (c.add_record.ensures.each i (omega (arith, lt, c.loop-n.invariant.size)));
}

pub returns : goal.returns
returns c = record {
  size = c.loop-n.invariant.size;
  each = λ i lt. c.loop-n.invariant.each i lt
      ∙ ap (λ (b : Bool). b || get_or c.args.set.now i false)
      (records_all c.args.descriptor.now (in_order c.args.link.now) c.loop-n.n i (omega (arith, c.marks-n-end.ensures, c.loop-n-test.false)));
}
