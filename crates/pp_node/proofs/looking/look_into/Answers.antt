use Rattle.pp_tree.specs.Book.{entry}
use Rattle.std.proofs.Common.{inl, rules}
use Rattle.pp_node.proofs.Looks.{looked_scan, unwritten_scan, names_scan, same_found}
use Rattle.pp_node.proofs.Readies.{lasts_fresh, lasts_scanned}
use Rattle.pp_node.proofs.looking.look_into.Goals as goal

pub returns-in-Ok-clause-looked : goal.returns-in-Ok-clause-looked
returns-in-Ok-clause-looked g c =
    looked_scan c.args.descriptor.now (g.D.Disk.state c.args.disk.now) (g.D.Disk.state c.scan.new.disk) (entry c.scan.new.book) c.requires.attached c.scan.ensures.looks (λ known. g.met.D.Disk.whole c.args.disk.now known)
    _ c.scan.result c.requires.begins c.scan.ensures.found

pub returns-in-Ok-clause-unwritten : goal.returns-in-Ok-clause-unwritten
returns-in-Ok-clause-unwritten g c =
    unwritten_scan c.args.descriptor.now (g.D.Disk.state c.args.disk.now) (g.D.Disk.state c.scan.new.disk) (entry c.scan.new.book) c.requires.attached c.scan.ensures.looks (λ known. g.met.D.Disk.whole c.args.disk.now known)

pub returns-in-Ok-clause-names : goal.returns-in-Ok-clause-names
returns-in-Ok-clause-names g c =
    names_scan c.args.descriptor.now (g.D.Disk.state c.args.disk.now) (g.D.Disk.state c.scan.new.disk) (entry c.scan.new.book) c.requires.attached c.scan.ensures.looks (λ known. g.met.D.Disk.whole c.args.disk.now known)

pub returns-in-Err-clause-unwritten : goal.returns-in-Err-clause-unwritten
returns-in-Err-clause-unwritten g c = record {
  tells = search rules;
  honest = search rules;
  synced = λ known. inl (c.requires.attached known);
  faults = search rules;
}

pub returns-in-Ok-clause-lasts : goal.returns-in-Ok-clause-lasts
returns-in-Ok-clause-lasts g c known =
    lasts_scanned c.args.descriptor.now (g.D.Disk.state c.args.disk.now).history (g.D.Disk.state c.scan.new.disk).history (c.requires.attached known)
    (g.met.D.Disk.whole c.args.disk.now known) (c.scan.ensures.looks.either known)

pub returns-in-Err-clause-lasts : goal.returns-in-Err-clause-lasts
returns-in-Err-clause-lasts g c known = lasts_fresh c.args.descriptor.now (g.D.Disk.state c.args.disk.now).history (c.requires.attached known)

pub returns-in-Ok-clause-kept : goal.returns-in-Ok-clause-kept
returns-in-Ok-clause-kept g c =
    same_found c.args.descriptor.now (g.D.Disk.state c.args.disk.now) (g.D.Disk.state c.scan.new.disk) (entry c.scan.new.book) c.requires.attached c.scan.ensures.looks (λ known. g.met.D.Disk.whole c.args.disk.now known)

pub returns-in-Err-clause-kept : goal.returns-in-Err-clause-kept
returns-in-Err-clause-kept g c known = (c.requires.attached known).showed
