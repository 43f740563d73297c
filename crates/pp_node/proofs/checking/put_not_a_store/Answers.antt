use Rattle.pp_node.proofs.Lines.{not_a_store_said}
use Rattle.pp_node.proofs.checking.put_not_a_store.Goals as goal

pub returns-clause-gained : goal.returns-clause-gained
returns-clause-gained g c =
    not_a_store_said c.args.at c.args.found c.args.want c.from.result c.from-2.result c.from-3.result _ _ _ _ c.put_counted-3.result c.from.ensures c.from-2.ensures c.from-3.ensures
    c.in_ok-put_counted.ensures.gained c.in_ok-put_counted-2.ensures.gained c.put_counted-3.ensures.gained
