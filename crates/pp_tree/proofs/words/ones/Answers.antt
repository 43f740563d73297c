use Rattle.std.proofs.Common.{◌≡◌, length, arith}
use Rattle.pp_tree.specs.Marks.{words_for}
use Rattle.pp_tree.proofs.Marking.{ones_set}
use Rattle.pp_tree.proofs.words.ones.Goals as goal

pub returns : goal.returns
returns c =
    let size : length c.loop-w.words.items ≡ words_for c.args.count = omega (arith, c.div_ceil-size.ensures, c.loop-w.invariant.0, c.loop-w-test.false) in
    (size, (λ i. ones_set c.loop-w.words.items c.args.count i size (λ w lt. c.loop-w.invariant.1 w (omega (arith, lt, c.loop-w.invariant.0)))))
