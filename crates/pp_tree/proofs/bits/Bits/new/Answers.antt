use Rattle.pp_tree.proofs.Packing.{none_set}
use Rattle.pp_tree.proofs.bits.Bits.new.Goals as goal

pub returns : goal.returns
returns c = none_set c.args.count c.div_ceil.result _ c.in_ok-words.ensures
