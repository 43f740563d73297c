use Rattle.std.proofs.Common.{inl}
use Rattle.pp_tree.specs.Book.{entry}
use Rattle.pp_node.proofs.Readies.{known_opened, lasts_fresh, lasts_opened, is_fresh, opened_fault, leaves_fault, unwritten_opened}
use Rattle.pp_node.proofs.preparing.open_peer.Goals as goal

pub returns-in-Ok-open-clause-opened : goal.returns-in-Ok-open-clause-opened
returns-in-Ok-open-clause-opened g c = record {
  begun = c.in-Ok-open.ensures.begun;
  stands = c.in-Ok-open.ensures.stands;
  fresh = is_fresh c.args.words.now (g.D.Disk.state c.args.disk.now) (g.D.Disk.state c.open.new.disk) c.requires.attached c.open.ensures.disk.attachment c.requires.begins
      c.in-Ok-open.peer c.open.ensures.disk.later (g.met.D.Disk.whole c.args.disk.now) c.in-Ok-open.ensures.scanned c.in-Ok-open.ensures.taken c.in-Ok-open.ensures.kept;
  tells = c.open.ensures.disk.tells;
  honest = c.open.ensures.disk.honest;
  faults = c.open.ensures.disk.faults;
  hard = c.open.ensures.disk.hard;
  buffer = c.in-Ok.ensures;
  held = c.in-Ok-open.ensures.had;
  knows = known_opened c.args.words.now (g.D.Disk.state c.args.disk.now) (g.D.Disk.state c.open.new.disk) c.requires.attached c.open.ensures.disk.attachment
      c.requires.begins (entry c.in-Ok-open.peer.parts.holding.book) c.in-Ok-open.peer.parts.holding.store.committed c.in-Ok-open.ensures.scanned;
}

pub returns-in_default-clause-lasts : goal.returns-in_default-clause-lasts
returns-in_default-clause-lasts g c known = lasts_fresh c.args.words.now.descriptor.now (g.D.Disk.state c.args.disk.now).history (c.requires.attached known)

pub returns-in-Ok-open-clause-lasts : goal.returns-in-Ok-open-clause-lasts
returns-in-Ok-open-clause-lasts g c known =
    lasts_opened c.args.words.now.descriptor.now (g.D.Disk.state c.args.disk.now).history (g.D.Disk.state c.open.new.disk).history (c.requires.attached known)
    (c.open.ensures.disk.attachment known) (c.open.ensures.goes_on known) (c.open.ensures.sound known)

pub returns-in-Err-clause-lasts : goal.returns-in-Err-clause-lasts
returns-in-Err-clause-lasts g c known =
    lasts_opened c.args.words.now.descriptor.now (g.D.Disk.state c.args.disk.now).history (g.D.Disk.state c.open.new.disk).history (c.requires.attached known)
    (c.open.ensures.disk.attachment known) (c.open.ensures.goes_on known) (c.open.ensures.sound known)

pub returns-in-Ok-open-clause-unwritten : goal.returns-in-Ok-open-clause-unwritten
returns-in-Ok-open-clause-unwritten g c =
    unwritten_opened c.args.words.now (g.D.Disk.state c.args.disk.now) (g.D.Disk.state c.open.new.disk) c.requires.attached c.open.ensures.disk.attachment
    c.requires.begins c.open.ensures.unwritten

pub returns-in-Err-clause-unwritten : goal.returns-in-Err-clause-unwritten
returns-in-Err-clause-unwritten g c =
    unwritten_opened c.args.words.now (g.D.Disk.state c.args.disk.now) (g.D.Disk.state c.open.new.disk) c.requires.attached c.open.ensures.disk.attachment
    c.requires.begins c.open.ensures.unwritten

pub returns-in_default-clause-unwritten : goal.returns-in_default-clause-unwritten
returns-in_default-clause-unwritten g c known some = inl (c.requires.attached known)

pub returns-in-Err-clause-opened : goal.returns-in-Err-clause-opened
returns-in-Err-clause-opened g c =
    rw c.of_open.ensures (opened_fault c.args.words.now (g.D.Disk.state c.args.disk.now) (g.D.Disk.state c.open.new.disk) c.requires.attached
    c.open.ensures.disk.attachment c.requires.begins c.in-Err.fault c.in-Err.ensures.fault)

pub returns-in-Err-clause-disk : goal.returns-in-Err-clause-disk
returns-in-Err-clause-disk g c =
    rw c.of_open.ensures (leaves_fault c.args.words.now (g.D.Disk.state c.args.disk.now) (g.D.Disk.state c.open.new.disk) c.requires.attached
    c.open.ensures.disk.attachment c.requires.begins c.in-Err.fault c.in-Err.ensures.fault)
