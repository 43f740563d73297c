use Rattle.pp_store.proofs.Marking.{slot_node, slot_layer}
use Rattle.pp_store.proofs.pairing.left_child.Goals as goal

pub overflow_shr-result : goal.overflow_shr-result
overflow_shr-result c = slot_layer c.args.slot c.requires

pub returns : goal.returns
returns c = slot_node c.args.slot c.requires
