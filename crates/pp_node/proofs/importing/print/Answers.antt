use Rattle.pp_node.proofs.Lines.{descriptor_said}
use Rattle.pp_node.proofs.importing.print.Goals as goal

pub returns-clause-gained : goal.returns-clause-gained
returns-clause-gained g c =
    descriptor_said c.args.descriptor.now _ _ _ _ c.put_all-2.result c.write-len.ensures.text c.in_ok-put_all.ensures.gained c.put_all-2.ensures.gained
