use Rattle.pp_terms.proofs.Knowing.{known_on}
use Rattle.pp_tree.specs.Book.{entry}
use Rattle.std.proofs.Common.{inr, rules}
use Rattle.pp_terms.proofs.Untouched.{freshly_attached}
use Rattle.pp_node.proofs.Looks.{looked_later, unwritten_later, unwritten_attached, named_later}
use Rattle.pp_node.proofs.Readies.{lasts_attached}
use Rattle.pp_node.proofs.looking.look.Goals as goal

pub returns-in-Ok-clause-looked : goal.returns-in-Ok-clause-looked
returns-in-Ok-clause-looked g c =
    looked_later c.args.descriptor.now (g.D.Disk.state c.args.disk.now) (g.D.Disk.state c.attach.new.self) (g.D.Disk.state c.look_attached.new.disk) (entry c.look_attached.new.book)
    (known_on (g.D.Disk.state c.args.disk.now) (g.D.Disk.state c.attach.new.self) c.in-Ok.ensures.call.tells c.in-Ok.ensures.call.honest) c.in-Ok.ensures.call.cause.later c.look_attached.result c.look_attached.ensures.looked

pub returns-in-Ok-clause-unwritten : goal.returns-in-Ok-clause-unwritten
returns-in-Ok-clause-unwritten g c =
    unwritten_later c.args.descriptor.now (g.D.Disk.state c.args.disk.now) (g.D.Disk.state c.attach.new.self) (g.D.Disk.state c.look_attached.new.disk) (entry c.look_attached.new.book)
    (known_on (g.D.Disk.state c.args.disk.now) (g.D.Disk.state c.attach.new.self) c.in-Ok.ensures.call.tells c.in-Ok.ensures.call.honest) c.in-Ok.ensures.call.cause.later
    c.in-Ok.ensures.call.tells c.in-Ok.ensures.call.honest c.look_attached.ensures.unwritten

pub returns-in-Ok-clause-named : goal.returns-in-Ok-clause-named
returns-in-Ok-clause-named g c known =
    named_later (g.D.Disk.state c.args.disk.now).history.names c.args.store.now (g.D.Disk.state c.attach.new.self).history.names (g.D.Disk.state c.look_attached.new.disk).history.names
    (c.in-Ok.ensures.attached known).named
    (c.look_attached.ensures.names (known_on (g.D.Disk.state c.args.disk.now) (g.D.Disk.state c.attach.new.self) c.in-Ok.ensures.call.tells c.in-Ok.ensures.call.honest known))

pub returns-in-Err-clause-looked : goal.returns-in-Err-clause-looked
returns-in-Err-clause-looked g c = record {
  risen = search rules;
  compared = λ known. inr (freshly_attached c.args.store.now _ _ (c.in-Err.ensures.attached known));
}

pub returns-in-Err-clause-unwritten : goal.returns-in-Err-clause-unwritten
returns-in-Err-clause-unwritten g c = unwritten_attached c.args.store.now _ _ _ c.in-Err.ensures

pub returns-in-Err-clause-named : goal.returns-in-Err-clause-named
returns-in-Err-clause-named g c known = (c.in-Err.ensures.attached known).named

pub returns-in-Err-clause-lasts : goal.returns-in-Err-clause-lasts
returns-in-Err-clause-lasts g c known =
    lasts_attached c.args.descriptor.now (g.D.Disk.state c.attach.new.self).history (c.in-Err.ensures.attached known).started (c.in-Err.ensures.attached known).began
