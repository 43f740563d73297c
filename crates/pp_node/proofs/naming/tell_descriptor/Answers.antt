use Rattle.std.proofs.Common.{Ok, ◌∙◌, ap, subst}
use Rattle.pp_targets.specs.Names.{name_of}
use Rattle.pp_node.specs.Naming.{FindsTold}
use Rattle.pp_node.proofs.NamedSeeds.{tells_none, tells_fault}
use Rattle.pp_node.proofs.naming.tell_descriptor.Goals as goal

pub returns-in-Ok-None-clause-told : goal.returns-in-Ok-None-clause-told
returns-in-Ok-None-clause-told g c =
    tells_none (name_of c.args.name.now) (g.D.Disk.state c.args.disk.now) (g.D.Disk.state c.find_descriptor.new.disk)
    (subst (FindsTold (name_of c.args.name.now) (g.D.Disk.state c.args.disk.now) (g.D.Disk.state c.find_descriptor.new.disk)) (c.in-Ok-None.is ∙ ap Ok c.in-Ok-None.field-0-is) c.find_descriptor.ensures.told)

pub returns-in-Ok-Some-clause-told : goal.returns-in-Ok-Some-clause-told
returns-in-Ok-Some-clause-told g c =
    subst (FindsTold (name_of c.args.name.now) (g.D.Disk.state c.args.disk.now) (g.D.Disk.state c.find_descriptor.new.disk)) (c.in-Ok-Some.is ∙ ap Ok c.in-Ok-Some.field-0-is) c.find_descriptor.ensures.told

pub returns-in-Err-clause-told : goal.returns-in-Err-clause-told
returns-in-Err-clause-told g c =
    tells_fault (name_of c.args.name.now) (g.D.Disk.state c.args.disk.now) (g.D.Disk.state c.find_descriptor.new.disk) c.in-Err.fault
    (subst (FindsTold (name_of c.args.name.now) (g.D.Disk.state c.args.disk.now) (g.D.Disk.state c.find_descriptor.new.disk)) c.in-Err.is c.find_descriptor.ensures.told)
