use Rattle.pp_avail.proofs.Numbers.{first_found}
use Rattle.pp_avail.proofs.copies.Copies.first_of.Goals as goal

pub returns-then-common-ne0 : goal.returns-then-common-ne0
returns-then-common-ne0 c =
    first_found c.args.wanted.now c.args.row.now c.args.self.now c.args.copies c.loop-w.from c.in-Some.w c.lowest.result c.in_word-common.result
    c.lowest.ensures.range c.lowest.ensures.here c.lowest.ensures.below c.in_word-common.ensures c.loop-w.invariant c.in-Some.ensures.next.2
