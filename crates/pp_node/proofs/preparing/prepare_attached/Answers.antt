use Rattle.pp_terms.proofs.Knowing.{known_on}
use Rattle.pp_node.proofs.Readies.{prepared_since, lasts_same, lasts_fresh, prepared_probe, leaves_probe, unbound_probe}
use Rattle.pp_node.proofs.Looks.{fresh_kept}
use Rattle.pp_outside.specs.Outside.{address_of}
use Rattle.std.proofs.Common.{inl, ◌∙◌, ap}
use Rattle.pp_terms.specs.disk.Disk.{History}
use Rattle.pp_node.proofs.preparing.prepare_attached.Goals as goal

pub returns-in-Ok-clause-prepared : goal.returns-in-Ok-clause-prepared
returns-in-Ok-clause-prepared g c =
    prepared_since c.args.words.now (g.D.Disk.state c.args.disk.now) (g.D.Disk.state c.probe.new.disk) (g.D.Disk.state c.listen_and_open.new.disk) (g.L.Link.seen c.args.link.now)
    (g.L.Link.seen c.listen_and_open.new.link) c.probe.ensures.looks.tells c.probe.ensures.looks.honest c.probe.ensures.looks.faults c.probe.ensures.looks.hard c.listen_and_open.result c.listen_and_open.ensures.prepared

pub returns-in-Ok-clause-lasts : goal.returns-in-Ok-clause-lasts
returns-in-Ok-clause-lasts g c known =
    c.listen_and_open.ensures.lasts (known_on (g.D.Disk.state c.args.disk.now) (g.D.Disk.state c.probe.new.disk) c.probe.ensures.looks.tells c.probe.ensures.looks.honest known)

pub returns-in-Err-clause-lasts : goal.returns-in-Err-clause-lasts
returns-in-Err-clause-lasts g c known =
    lasts_same c.args.words.now.descriptor.now (g.D.Disk.state c.args.disk.now).history (g.D.Disk.state c.probe.new.disk).history c.probe.ensures.looks.same
    (lasts_fresh c.args.words.now.descriptor.now (g.D.Disk.state c.args.disk.now).history (c.requires.attached known))

pub returns-in-Err-clause-prepared : goal.returns-in-Err-clause-prepared
returns-in-Err-clause-prepared g c =
    rw c.of_probe.ensures (prepared_probe c.args.words.now (g.D.Disk.state c.args.disk.now) (g.D.Disk.state c.probe.new.disk)
    c.requires.attached c.probe.ensures.looks (g.L.Link.seen c.args.link.now) c.in-Err.fault c.in-Err.ensures.probed)

pub returns-in-Err-clause-disk : goal.returns-in-Err-clause-disk
returns-in-Err-clause-disk g c =
    rw c.of_probe.ensures (leaves_probe c.args.words.now (g.D.Disk.state c.args.disk.now) (g.D.Disk.state c.probe.new.disk)
    c.requires.attached c.probe.ensures.looks c.in-Err.fault)

pub returns-in-Err-clause-link : goal.returns-in-Err-clause-link
returns-in-Err-clause-link g c =
    rw c.of_probe.ensures (unbound_probe (g.L.Link.seen c.args.link.now).bound (address_of c.args.words.now.listen.now) c.in-Err.fault)

pub returns-in-Err-clause-unwritten : goal.returns-in-Err-clause-unwritten
returns-in-Err-clause-unwritten g c known some =
    inl (fresh_kept c.args.words.now.descriptor.now (g.D.Disk.state c.args.disk.now) (g.D.Disk.state c.probe.new.disk) c.requires.attached c.probe.ensures.looks known)

pub returns-in-Ok-clause-unwritten : goal.returns-in-Ok-clause-unwritten
returns-in-Ok-clause-unwritten g c known =
    c.listen_and_open.ensures.unwritten (known_on (g.D.Disk.state c.args.disk.now) (g.D.Disk.state c.probe.new.disk) c.probe.ensures.looks.tells c.probe.ensures.looks.honest known)

pub returns-in-Ok-clause-disk : goal.returns-in-Ok-clause-disk
returns-in-Ok-clause-disk g c known =
    c.listen_and_open.ensures.disk (known_on (g.D.Disk.state c.args.disk.now) (g.D.Disk.state c.probe.new.disk) c.probe.ensures.looks.tells c.probe.ensures.looks.honest known)

pub returns-in-Ok-clause-names : goal.returns-in-Ok-clause-names
returns-in-Ok-clause-names g c known =
    c.listen_and_open.ensures.names (known_on (g.D.Disk.state c.args.disk.now) (g.D.Disk.state c.probe.new.disk) c.probe.ensures.looks.tells c.probe.ensures.looks.honest known)
    ∙ ap (λ (h : History). h.names) c.probe.ensures.looks.same
