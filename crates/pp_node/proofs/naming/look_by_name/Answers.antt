use Rattle.pp_named.specs.Front.{sized}
use Rattle.pp_targets.specs.Names.{name_of}
use Rattle.pp_terms.proofs.Knowing.{known_on}
use Rattle.pp_node.proofs.Looks.{unwritten_later, unwritten_attached, named_later}
use Rattle.pp_node.proofs.ByName.{finds_later, told_back}
use Rattle.pp_node.proofs.Readies.{lasts_attached}
use Rattle.pp_tree.specs.Book.{entry}
use Rattle.pp_node.proofs.naming.look_by_name.Goals as goal

pub returns-in-Ok-clause-found : goal.returns-in-Ok-clause-found
returns-in-Ok-clause-found g c =
    finds_later (name_of c.args.name.now) (g.D.Disk.state c.args.disk.now) (g.D.Disk.state c.attach.new.self) (g.D.Disk.state c.look_attached.new.disk)
    (known_on (g.D.Disk.state c.args.disk.now) (g.D.Disk.state c.attach.new.self) c.in-Ok.ensures.call.tells c.in-Ok.ensures.call.honest)
    c.in-Ok.ensures.call.cause.later c.look_attached.new.book c.look_attached.result c.look_attached.ensures.found

pub returns-in-Ok-clause-unwritten : goal.returns-in-Ok-clause-unwritten
returns-in-Ok-clause-unwritten g c =
    unwritten_later (sized (name_of c.args.name.now) 0) (g.D.Disk.state c.args.disk.now) (g.D.Disk.state c.attach.new.self) (g.D.Disk.state c.look_attached.new.disk) (entry c.look_attached.new.book)
    (known_on (g.D.Disk.state c.args.disk.now) (g.D.Disk.state c.attach.new.self) c.in-Ok.ensures.call.tells c.in-Ok.ensures.call.honest) c.in-Ok.ensures.call.cause.later
    c.in-Ok.ensures.call.tells c.in-Ok.ensures.call.honest c.look_attached.ensures.unwritten

pub returns-in-Ok-clause-lasts : goal.returns-in-Ok-clause-lasts
returns-in-Ok-clause-lasts g c known e told =
    c.look_attached.ensures.lasts
    (known_on (g.D.Disk.state c.args.disk.now) (g.D.Disk.state c.attach.new.self) c.in-Ok.ensures.call.tells c.in-Ok.ensures.call.honest known) e
    (told_back (name_of c.args.name.now) (g.D.Disk.state c.args.disk.now) (g.D.Disk.state c.attach.new.self) (g.D.Disk.state c.look_attached.new.disk)
    (known_on (g.D.Disk.state c.args.disk.now) (g.D.Disk.state c.attach.new.self) c.in-Ok.ensures.call.tells c.in-Ok.ensures.call.honest) known e told)

pub returns-in-Ok-clause-named : goal.returns-in-Ok-clause-named
returns-in-Ok-clause-named g c known =
    named_later (g.D.Disk.state c.args.disk.now).history.names c.args.store.now (g.D.Disk.state c.attach.new.self).history.names (g.D.Disk.state c.look_attached.new.disk).history.names
    (c.in-Ok.ensures.attached known).named
    (c.look_attached.ensures.names (known_on (g.D.Disk.state c.args.disk.now) (g.D.Disk.state c.attach.new.self) c.in-Ok.ensures.call.tells c.in-Ok.ensures.call.honest known))

pub returns-in-Err-clause-unwritten : goal.returns-in-Err-clause-unwritten
returns-in-Err-clause-unwritten g c = unwritten_attached c.args.store.now _ _ _ c.in-Err.ensures

pub returns-in-Err-clause-named : goal.returns-in-Err-clause-named
returns-in-Err-clause-named g c known = (c.in-Err.ensures.attached known).named

pub returns-in-Err-clause-lasts : goal.returns-in-Err-clause-lasts
returns-in-Err-clause-lasts g c known e told =
    lasts_attached e (g.D.Disk.state c.attach.new.self).history (c.in-Err.ensures.attached known).started (c.in-Err.ensures.attached known).began
