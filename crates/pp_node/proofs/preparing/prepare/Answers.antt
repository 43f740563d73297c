use Rattle.pp_terms.proofs.Knowing.{known_on}
use Rattle.std.proofs.Common.{inl, inr}
use Rattle.pp_terms.proofs.Untouched.{freshly_attached}
use Rattle.pp_node.proofs.Looks.{named_later}
use Rattle.pp_node.proofs.Readies.{prepared_since, lasts_attached}
use Rattle.pp_node.proofs.preparing.prepare.Goals as goal

pub returns-in-Ok-clause-prepared : goal.returns-in-Ok-clause-prepared
returns-in-Ok-clause-prepared g c =
    prepared_since c.args.words.now (g.D.Disk.state c.args.disk.now) (g.D.Disk.state c.attach.new.self) (g.D.Disk.state c.prepare_attached.new.disk) (g.L.Link.seen c.args.link.now)
    (g.L.Link.seen c.prepare_attached.new.link) c.attach.ensures.call.tells c.attach.ensures.call.honest c.attach.ensures.call.cause.later c.attach.ensures.hard_cause.later c.prepare_attached.result c.prepare_attached.ensures.prepared

pub returns-in-Ok-clause-lasts : goal.returns-in-Ok-clause-lasts
returns-in-Ok-clause-lasts g c known =
    c.prepare_attached.ensures.lasts (known_on (g.D.Disk.state c.args.disk.now) (g.D.Disk.state c.attach.new.self) c.attach.ensures.call.tells c.attach.ensures.call.honest known)

pub returns-in-Err-clause-lasts : goal.returns-in-Err-clause-lasts
returns-in-Err-clause-lasts g c known =
    lasts_attached c.args.words.now.descriptor.now (g.D.Disk.state c.attach.new.self).history (c.attach.ensures.attached known).started (c.attach.ensures.attached known).began

pub returns-in-Ok-clause-unwritten : goal.returns-in-Ok-clause-unwritten
returns-in-Ok-clause-unwritten g c known =
    c.prepare_attached.ensures.unwritten (known_on (g.D.Disk.state c.args.disk.now) (g.D.Disk.state c.attach.new.self) c.attach.ensures.call.tells c.attach.ensures.call.honest known)

pub returns-in-Ok-clause-disk : goal.returns-in-Ok-clause-disk
returns-in-Ok-clause-disk g c known =
    c.prepare_attached.ensures.disk (known_on (g.D.Disk.state c.args.disk.now) (g.D.Disk.state c.attach.new.self) c.attach.ensures.call.tells c.attach.ensures.call.honest known)

pub returns-in-Ok-clause-named : goal.returns-in-Ok-clause-named
returns-in-Ok-clause-named g c known =
    named_later (g.D.Disk.state c.args.disk.now).history.names c.args.words.now.store.now (g.D.Disk.state c.attach.new.self).history.names (g.D.Disk.state c.prepare_attached.new.disk).history.names
    (c.attach.ensures.attached known).named
    (c.prepare_attached.ensures.names (known_on (g.D.Disk.state c.args.disk.now) (g.D.Disk.state c.attach.new.self) c.attach.ensures.call.tells c.attach.ensures.call.honest known))

pub returns-in-Err-clause-unwritten : goal.returns-in-Err-clause-unwritten
returns-in-Err-clause-unwritten g c known some = inl (freshly_attached c.args.words.now.store.now _ _ (c.attach.ensures.attached known))

pub returns-in-Err-clause-disk : goal.returns-in-Err-clause-disk
returns-in-Err-clause-disk g c known = inr (freshly_attached c.args.words.now.store.now _ _ (c.attach.ensures.attached known))

pub returns-in-Err-clause-named : goal.returns-in-Err-clause-named
returns-in-Err-clause-named g c known = (c.attach.ensures.attached known).named
