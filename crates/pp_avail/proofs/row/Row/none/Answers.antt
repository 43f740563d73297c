use Rattle.std.proofs.Common.{arith}
use Rattle.pp_tree.proofs.Packing.{none_set}
use Rattle.pp_tree.proofs.Marking.{none_marked}
use Rattle.pp_avail.proofs.row.Row.none.Goals as goal

pub invariant_of-result : goal.invariant_of-result
invariant_of-result c =
    none_marked c.args.count c.in_ok-words.words.items c.in_ok-any.any.items c.in_ok-lacks.lacks.items c.div_ceil-size.result c.div_ceil.result c.requires
    (omega (arith, c.div_ceil-size.ensures)) (omega (arith, c.div_ceil.ensures)) c.in_ok-words.ensures c.in_ok-any.ensures c.in_ok-lacks.ensures.0 c.in_ok-lacks.ensures.1

pub returns : goal.returns
returns c = none_set c.args.count c.div_ceil-size.result _ c.in_ok-words.ensures
