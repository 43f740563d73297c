use Rattle.std.proofs.Common.{false, get_or, ap, ◌∙◌, reverse, arith}
use Rattle.std.specs.Prelude.{◌||◌}
use Rattle.pp_outside.specs.MemoryLink.{in_order}
use Rattle.pp_outside.specs.declared.memory_link.MemoryLink.{MemoryLink}
use Rattle.pp_world.specs.Outcome.{is_announced_in}
use Rattle.pp_outcome.proofs.Gains.{life_more}
use Rattle.pp_outcome.proofs.announced.announced.Goals as goal

pub loop-life-preserved : goal.loop-life-preserved
loop-life-preserved c =
    let d = c.args.descriptor.now in record {
      size = c.add_link.ensures.size ∙ c.loop-life.invariant.size;
      each = λ i lt. life_more d c.args.lives.now c.loop-life.life-index i c.life-item.result
          (get_or c.loop-life.set i false) (get_or c.add_link.new.set i false) c.loop-life-test.true c.life-item.is
          (c.loop-life.invariant.each i lt)
          (c.add_link.ensures.each i (omega (arith, lt, c.loop-life.invariant.size))
          ∙ ap (λ (link : MemoryLink). is_announced_in d i (reverse (in_order link)) || get_or c.loop-life.set i false) c.link.ensures);
    }
