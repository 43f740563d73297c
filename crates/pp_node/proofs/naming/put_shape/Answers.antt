use Rattle.pp_node.proofs.ByName.{shape_said}
use Rattle.pp_node.proofs.naming.put_shape.Goals as goal

pub returns-clause-gained : goal.returns-clause-gained
returns-clause-gained g c =
    shape_said c.args.node.layer c.args.node.offset c.from.result c.from-2.result _ _ _ c.put_counted-2.result c.from.ensures c.from-2.ensures
    c.in_ok-put_counted.ensures.gained c.put_counted-2.ensures.gained
