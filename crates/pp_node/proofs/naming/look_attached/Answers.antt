use Rattle.std.proofs.Common.{Ok, ◌∙◌, ap, subst}
use Rattle.pp_terms.proofs.Knowing.{known_on}
use Rattle.pp_terms.specs.format.Descriptor.{Descriptor}
use Rattle.pp_targets.specs.Names.{name_of}
use Rattle.pp_named.specs.Told.{HasTold}
use Rattle.pp_named.specs.Front.{sized}
use Rattle.pp_tree.specs.Book.{entry}
use Rattle.pp_node.specs.Looking.{Lasts}
use Rattle.pp_node.proofs.Looks.{unwritten_later, unwritten_kept}
use Rattle.pp_node.proofs.ByName.{tells_of, tells_on, told_scanned, told_later, told_once, finds_later, none_found, fault_found}
use Rattle.pp_node.proofs.Readies.{lasts_same, lasts_fresh}
use Rattle.pp_node.proofs.naming.look_attached.Goals as goal

pub look_told-requires-clause-begins : goal.look_told-requires-clause-begins
look_told-requires-clause-begins g c =
    (tells_on (name_of c.args.name.now) (g.D.Disk.state c.args.disk.now) (g.D.Disk.state c.probe_name.new.disk) c.requires.attached c.probe_name.ensures.looks
    c.in-Ok-Some.descriptor (tells_of (name_of c.args.name.now) (g.D.Disk.state c.args.disk.now) (g.D.Disk.state c.probe_name.new.disk) c.probe_name.result
    c.in-Ok-Some.descriptor (c.in-Ok-Some.is ∙ ap Ok c.in-Ok-Some.field-0-is) c.probe_name.ensures.told)).begins

pub returns-in-Ok-Some-clause-found : goal.returns-in-Ok-Some-clause-found
returns-in-Ok-Some-clause-found g c =
    let tells = tells_on (name_of c.args.name.now) (g.D.Disk.state c.args.disk.now) (g.D.Disk.state c.probe_name.new.disk) c.requires.attached
    c.probe_name.ensures.looks c.in-Ok-Some.descriptor (tells_of (name_of c.args.name.now) (g.D.Disk.state c.args.disk.now)
    (g.D.Disk.state c.probe_name.new.disk) c.probe_name.result c.in-Ok-Some.descriptor (c.in-Ok-Some.is ∙ ap Ok c.in-Ok-Some.field-0-is) c.probe_name.ensures.told) in
    finds_later (name_of c.args.name.now) (g.D.Disk.state c.args.disk.now) (g.D.Disk.state c.probe_name.new.disk) (g.D.Disk.state c.look_told.new.disk)
    (known_on (g.D.Disk.state c.args.disk.now) (g.D.Disk.state c.probe_name.new.disk) c.probe_name.ensures.looks.tells c.probe_name.ensures.looks.honest)
    c.probe_name.ensures.looks.faults c.look_told.new.book c.look_told.result (c.look_told.ensures.found (name_of c.args.name.now) tells)

pub returns-in-Ok-Some-clause-unwritten : goal.returns-in-Ok-Some-clause-unwritten
returns-in-Ok-Some-clause-unwritten g c =
    unwritten_later c.in-Ok-Some.descriptor (g.D.Disk.state c.args.disk.now) (g.D.Disk.state c.probe_name.new.disk) (g.D.Disk.state c.look_told.new.disk) (entry c.look_told.new.book)
    (known_on (g.D.Disk.state c.args.disk.now) (g.D.Disk.state c.probe_name.new.disk) c.probe_name.ensures.looks.tells c.probe_name.ensures.looks.honest)
    c.probe_name.ensures.looks.faults c.probe_name.ensures.looks.tells c.probe_name.ensures.looks.honest c.look_told.ensures.unwritten

pub returns-in-Ok-Some-clause-lasts : goal.returns-in-Ok-Some-clause-lasts
returns-in-Ok-Some-clause-lasts g c known e told =
    let name = name_of c.args.name.now in
    let old = g.D.Disk.state c.args.disk.now in
    let mid = g.D.Disk.state c.probe_name.new.disk in
    let new = g.D.Disk.state c.look_told.new.disk in
    let knows = known_on old mid c.probe_name.ensures.looks.tells c.probe_name.ensures.looks.honest in
    let tells = tells_on name old mid c.requires.attached c.probe_name.ensures.looks c.in-Ok-Some.descriptor
    (tells_of name old mid c.probe_name.result c.in-Ok-Some.descriptor (c.in-Ok-Some.is ∙ ap Ok c.in-Ok-Some.field-0-is) c.probe_name.ensures.told) in
    let own = told_later name old mid new knows c.in-Ok-Some.descriptor (told_scanned name c.in-Ok-Some.descriptor mid new tells c.look_told.ensures.kept) in
    subst (λ (d : Descriptor). Lasts d new.history) (told_once name c.in-Ok-Some.descriptor e old new known own told) (c.look_told.ensures.lasts (knows known))

pub returns-in-Ok-None-clause-found : goal.returns-in-Ok-None-clause-found
returns-in-Ok-None-clause-found g c =
    none_found (name_of c.args.name.now) (g.D.Disk.state c.args.disk.now) (g.D.Disk.state c.probe_name.new.disk) c.requires.attached c.probe_name.ensures.looks
    c.probe_name.result c.args.book.now (c.in-Ok-None.is ∙ ap Ok c.in-Ok-None.field-0-is) c.probe_name.ensures.told

pub returns-in-Ok-None-clause-lasts : goal.returns-in-Ok-None-clause-lasts
returns-in-Ok-None-clause-lasts g c known e told =
    lasts_same e (g.D.Disk.state c.args.disk.now).history (g.D.Disk.state c.probe_name.new.disk).history c.probe_name.ensures.looks.same
    (lasts_fresh e (g.D.Disk.state c.args.disk.now).history (c.requires.attached known))

pub returns-in-Err-clause-found : goal.returns-in-Err-clause-found
returns-in-Err-clause-found g c = rw c.of_name.ensures
    (fault_found (name_of c.args.name.now) (g.D.Disk.state c.args.disk.now) (g.D.Disk.state c.probe_name.new.disk) c.requires.attached c.probe_name.ensures.looks
    c.in-Err.fault c.args.book.now (subst (HasTold (name_of c.args.name.now) (g.D.Disk.state c.args.disk.now) (g.D.Disk.state c.probe_name.new.disk)) c.in-Err.is c.probe_name.ensures.told))

pub returns-in-Err-clause-lasts : goal.returns-in-Err-clause-lasts
returns-in-Err-clause-lasts g c known e told =
    lasts_same e (g.D.Disk.state c.args.disk.now).history (g.D.Disk.state c.probe_name.new.disk).history c.probe_name.ensures.looks.same
    (lasts_fresh e (g.D.Disk.state c.args.disk.now).history (c.requires.attached known))

pub returns-in-Err-clause-unwritten : goal.returns-in-Err-clause-unwritten
returns-in-Err-clause-unwritten g c =
    unwritten_kept (sized (name_of c.args.name.now) 0) (g.D.Disk.state c.args.disk.now) (g.D.Disk.state c.probe_name.new.disk) c.requires.attached c.probe_name.ensures.looks
