use Rattle.std.proofs.Common.{subst}
use Rattle.pp_targets.specs.Names.{name_of}
use Rattle.pp_named.specs.Told.{HasTold}
use Rattle.pp_node.proofs.NamedSeeds.{finds_told, finds_fault}
use Rattle.pp_node.proofs.naming.find_attached.Goals as goal

pub returns-in-Ok-clause-told : goal.returns-in-Ok-clause-told
returns-in-Ok-clause-told g c =
    finds_told (name_of c.args.name.now) (g.D.Disk.state c.args.disk.now) (g.D.Disk.state c.probe_name.new.disk) c.requires.attached c.probe_name.ensures.looks
    c.in-Ok.told (subst (HasTold (name_of c.args.name.now) (g.D.Disk.state c.args.disk.now) (g.D.Disk.state c.probe_name.new.disk)) c.in-Ok.is c.probe_name.ensures.told)

pub returns-in-Err-clause-told : goal.returns-in-Err-clause-told
returns-in-Err-clause-told g c = rw c.of_name.ensures
    (finds_fault (name_of c.args.name.now) (g.D.Disk.state c.args.disk.now) (g.D.Disk.state c.probe_name.new.disk) c.requires.attached c.probe_name.ensures.looks
    c.in-Err.fault (subst (HasTold (name_of c.args.name.now) (g.D.Disk.state c.args.disk.now) (g.D.Disk.state c.probe_name.new.disk)) c.in-Err.is c.probe_name.ensures.told))
