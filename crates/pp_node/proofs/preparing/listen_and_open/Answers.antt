use Rattle.std.proofs.Common.{inl}
use Rattle.pp_outside.specs.Outside.{address_of}
use Rattle.pp_node.proofs.Readies.{lasts_fresh, bound_open}
use Rattle.pp_node.proofs.preparing.listen_and_open.Goals as goal

pub returns-in-Err-clause-lasts : goal.returns-in-Err-clause-lasts
returns-in-Err-clause-lasts g c known = lasts_fresh c.args.words.now.descriptor.now (g.D.Disk.state c.args.disk.now).history (c.requires.attached known)

pub returns-in-Err-clause-unwritten : goal.returns-in-Err-clause-unwritten
returns-in-Err-clause-unwritten g c known some = inl (c.requires.attached known)

pub returns-in-Ok-clause-link : goal.returns-in-Ok-clause-link
returns-in-Ok-clause-link g c =
    bound_open c.args.words.now (g.D.Disk.state c.args.disk.now) (g.D.Disk.state c.open_peer.new.disk)
    (g.L.Link.seen c.args.link.now).bound (address_of c.args.words.now.listen.now) (g.L.Link.seen c.bind.new.self).bound c.open_peer.result c.in-Ok.ensures.bound c.open_peer.ensures.opened
