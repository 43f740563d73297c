use Rattle.pp_tree.specs.Bits.{bit_of}
use Rattle.pp_plan.proofs.Words.{three_parts}
use Rattle.pp_plan.proofs.tier.fill.Goals as goal

pub returns-clause-bits : goal.returns-clause-bits
returns-clause-bits c = λ i. three_parts (bit_of c.fill_part-3.new.words i) (bit_of c.fill_whole.new.words i) (bit_of c.fill_part-2.new.words i) (bit_of c.args.words.now i)
    c.args.first c.args.last i c.requires.order c.if-low-high.false (c.fill_part-3.ensures.bits i) (c.fill_whole.ensures.bits i) (c.fill_part-2.ensures.bits i)
