use Rattle.pp_terms.proofs.Knowing.{known_on}
use Rattle.pp_tree.specs.Book.{entry}
use Rattle.std.proofs.Common.{Err, ◌∙◌, ap}
use Rattle.pp_terms.specs.disk.Disk.{History}
use Rattle.pp_node.proofs.Looks.{looked_later, unwritten_later, unwritten_kept, other_probed, refused_probed}
use Rattle.pp_node.proofs.Readies.{lasts_same, lasts_fresh}
use Rattle.pp_node.proofs.looking.look_attached.Goals as goal

pub returns-in-Ok-clause-looked : goal.returns-in-Ok-clause-looked
returns-in-Ok-clause-looked g c =
    looked_later c.args.descriptor.now (g.D.Disk.state c.args.disk.now) (g.D.Disk.state c.probe.new.disk) (g.D.Disk.state c.look_into.new.disk) (entry c.look_into.new.book)
    (known_on (g.D.Disk.state c.args.disk.now) (g.D.Disk.state c.probe.new.disk) c.probe.ensures.looks.tells c.probe.ensures.looks.honest) c.probe.ensures.looks.faults c.look_into.result c.look_into.ensures.looked

pub returns-in-Ok-clause-unwritten : goal.returns-in-Ok-clause-unwritten
returns-in-Ok-clause-unwritten g c =
    unwritten_later c.args.descriptor.now (g.D.Disk.state c.args.disk.now) (g.D.Disk.state c.probe.new.disk) (g.D.Disk.state c.look_into.new.disk) (entry c.look_into.new.book)
    (known_on (g.D.Disk.state c.args.disk.now) (g.D.Disk.state c.probe.new.disk) c.probe.ensures.looks.tells c.probe.ensures.looks.honest) c.probe.ensures.looks.faults
    c.probe.ensures.looks.tells c.probe.ensures.looks.honest c.look_into.ensures.unwritten

pub returns-in-Ok-clause-names : goal.returns-in-Ok-clause-names
returns-in-Ok-clause-names g c known =
    c.look_into.ensures.names (known_on (g.D.Disk.state c.args.disk.now) (g.D.Disk.state c.probe.new.disk) c.probe.ensures.looks.tells c.probe.ensures.looks.honest known)
    ∙ ap (λ (h : History). h.names) c.probe.ensures.looks.same

pub returns-in-Err-NotAStore-clause-looked : goal.returns-in-Err-NotAStore-clause-looked
returns-in-Err-NotAStore-clause-looked g c = rw (c.in-Err-NotAStore.at-is, c.in-Err-NotAStore.found-is, c.in-Err-NotAStore.want-is)
    (other_probed c.args.descriptor.now (g.D.Disk.state c.args.disk.now) (g.D.Disk.state c.probe.new.disk) c.requires.attached c.probe.ensures.looks c.probe.result _ _ _
    (c.in-Err-NotAStore.is ∙ ap Err c.in-Err-NotAStore.field-0-is) c.probe.ensures.probed)

pub returns-in-Err-NotAStore-clause-unwritten : goal.returns-in-Err-NotAStore-clause-unwritten
returns-in-Err-NotAStore-clause-unwritten g c =
    unwritten_kept c.args.descriptor.now (g.D.Disk.state c.args.disk.now) (g.D.Disk.state c.probe.new.disk) c.requires.attached c.probe.ensures.looks

pub returns-in-Err-Disk-clause-looked : goal.returns-in-Err-Disk-clause-looked
returns-in-Err-Disk-clause-looked g c =
    refused_probed c.args.descriptor.now (g.D.Disk.state c.args.disk.now) (g.D.Disk.state c.probe.new.disk) c.requires.attached c.probe.ensures.looks c.probe.result
    (c.in-Err-Disk.is ∙ ap Err c.in-Err-Disk.field-0-is) c.probe.ensures.probed

pub returns-in-Err-Disk-clause-unwritten : goal.returns-in-Err-Disk-clause-unwritten
returns-in-Err-Disk-clause-unwritten g c =
    unwritten_kept c.args.descriptor.now (g.D.Disk.state c.args.disk.now) (g.D.Disk.state c.probe.new.disk) c.requires.attached c.probe.ensures.looks

pub returns-in-Err-NotAStore-clause-lasts : goal.returns-in-Err-NotAStore-clause-lasts
returns-in-Err-NotAStore-clause-lasts g c known =
    lasts_same c.args.descriptor.now (g.D.Disk.state c.args.disk.now).history (g.D.Disk.state c.probe.new.disk).history c.probe.ensures.looks.same
    (lasts_fresh c.args.descriptor.now (g.D.Disk.state c.args.disk.now).history (c.requires.attached known))

pub returns-in-Err-Disk-clause-lasts : goal.returns-in-Err-Disk-clause-lasts
returns-in-Err-Disk-clause-lasts g c known =
    lasts_same c.args.descriptor.now (g.D.Disk.state c.args.disk.now).history (g.D.Disk.state c.probe.new.disk).history c.probe.ensures.looks.same
    (lasts_fresh c.args.descriptor.now (g.D.Disk.state c.args.disk.now).history (c.requires.attached known))
