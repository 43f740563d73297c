use Rattle.pp_terms.proofs.Knowing.{known_on}
use Rattle.pp_targets.specs.Names.{name_of}
use Rattle.pp_node.proofs.NamedSeeds.{sought_later, attached_alone, attached_read}
use Rattle.pp_node.proofs.naming.find_descriptor.Goals as goal

pub returns-in-Ok-clause-told : goal.returns-in-Ok-clause-told
returns-in-Ok-clause-told g c =
    sought_later (name_of c.args.name.now) (g.D.Disk.state c.args.disk.now) (g.D.Disk.state c.attach.new.self) (g.D.Disk.state c.find_attached.new.disk)
    (known_on (g.D.Disk.state c.args.disk.now) (g.D.Disk.state c.attach.new.self) c.in-Ok.ensures.call.tells c.in-Ok.ensures.call.honest)
    c.in-Ok.ensures.call.cause.later c.find_attached.result c.find_attached.ensures.told

pub returns-in-Ok-clause-attached : goal.returns-in-Ok-clause-attached
returns-in-Ok-clause-attached g c =
    attached_read c.args.store.now (g.D.Disk.state c.args.disk.now) (g.D.Disk.state c.attach.new.self) (g.D.Disk.state c.find_attached.new.disk)
    (attached_alone c.args.store.now _ _ _ c.in-Ok.ensures) c.find_attached.ensures.looks

pub returns-in-Err-clause-attached : goal.returns-in-Err-clause-attached
returns-in-Err-clause-attached g c = attached_alone c.args.store.now _ _ _ c.in-Err.ensures
