use Rattle.std.proofs.Common.{◌/◌, ◌≤◌, ◌∙◌, arith}
use Rattle.pp_tree.specs.Bits.{bit_of}
use Rattle.pp_story.proofs.Written.{one_more}
use Rattle.pp_story.proofs.asked.write.Goals as goal

pub loop-w-preserved : goal.loop-w-preserved
loop-w-preserved c =
    let to : c.loop-w.w ≤ c.args.last / 64 = omega arith in
    record {
      from = omega (arith, c.loop-w.invariant.from);
      len = c.write_in_word.ensures.len ∙ c.loop-w.invariant.len;
      bits = λ i. one_more c.args.first c.args.last c.loop-w.w c.max.result c.min.result i c.args.value
          (bit_of c.write_in_word.new.words i) (bit_of c.loop-w.words i) (bit_of c.args.words.now i)
          c.loop-w.invariant.from to c.max.ensures c.min.ensures (c.write_in_word.ensures.bits i) (c.loop-w.invariant.bits i);
    }
