use Rattle.pp_tree.proofs.Packing.{one_set}
use Rattle.pp_tree.proofs.bits.Bits.set.Goals as goal

pub returns : goal.returns
returns c = one_set c.args.self.now c.fill_in_word.new.self c.args.i c.fill_in_word.ensures.len c.requires c.fill_in_word.ensures.bits
