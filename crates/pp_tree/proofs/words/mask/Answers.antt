use Rattle.std.proofs.Common.{arith}
use Rattle.pp_tree.proofs.Packing.{ones_from}
use Rattle.pp_tree.proofs.words.mask.Goals as goal

pub overflow_sub-result-3 : goal.overflow_sub-result-3
overflow_sub-result-3 c =
    let ones = ones_from c.args.first c.args.last c.requires.order c.requires.inside in
    omega (arith, ones.0, ones.1, ones.2, ones.3)

pub returns : goal.returns
returns c =
    let ones = ones_from c.args.first c.args.last c.requires.order c.requires.inside in
    omega (arith, ones.0, ones.1, ones.2, ones.3)
