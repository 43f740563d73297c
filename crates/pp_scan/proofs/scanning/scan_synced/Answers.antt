use Rattle.std.proofs.Common.{sym, ◌∙◌}
use Rattle.pp_tree.specs.Book.{entry}
use Rattle.pp_tree.proofs.Rootedness.{book_alone}
use Rattle.pp_scan.proofs.Reading.{len_keeps, no_bytes}
use Rattle.pp_scan.proofs.Finding.{found_after, found_empty, only_after}
use Rattle.pp_scan.proofs.Holds.{root_known}
use Rattle.pp_scan.proofs.scanning.scan_synced.Goals as goal

pub returns-in-Ok-eq0-clause-found : goal.returns-in-Ok-eq0-clause-found
returns-in-Ok-eq0-clause-found g c =
    found_empty c.args.descriptor.now (g.D.Disk.state c.args.disk.now) (entry c.args.book.now) c.args.set c.requires.valid c.requires.alone c.requires.none
    (λ known. no_bytes (g.D.Disk.state c.args.disk.now).history.reads (sym (c.in-Ok-eq0.ensures.counted known) ∙ c.in-Ok-eq0.field-0-test))

pub returns-in-Ok-clause-found : goal.returns-in-Ok-clause-found
returns-in-Ok-clause-found g c =
    found_after c.args.descriptor.now (g.D.Disk.state c.args.disk.now) (g.D.Disk.state c.len.new.self) (g.D.Disk.state c.scan_file.new.disk) (entry c.scan_file.new.book)
    c.scan_file.result (len_keeps _ _ _ c.len.ensures) c.scan_file.ensures.found

pub returns-in-Ok-clause-only : goal.returns-in-Ok-clause-only
returns-in-Ok-clause-only g c =
    only_after c.args.descriptor.now (g.D.Disk.state c.args.disk.now) (g.D.Disk.state c.len.new.self) (entry c.scan_file.new.book) (len_keeps _ _ _ c.len.ensures) c.scan_file.ensures.only

pub returns-in-Ok-eq0-clause-book : goal.returns-in-Ok-eq0-clause-book
returns-in-Ok-eq0-clause-book g c =
    book_alone c.args.descriptor.now c.args.book.now c.requires.valid.root_length c.requires.descriptor c.requires.alone

pub returns-in-Ok-eq0-clause-only : goal.returns-in-Ok-eq0-clause-only
returns-in-Ok-eq0-clause-only g c known = root_known c.args.descriptor.now _ (entry c.args.book.now) c.requires.alone

pub returns-in-Err-clause-book : goal.returns-in-Err-clause-book
returns-in-Err-clause-book g c =
    book_alone c.args.descriptor.now c.args.book.now c.requires.valid.root_length c.requires.descriptor c.requires.alone

pub returns-in-Err-clause-only : goal.returns-in-Err-clause-only
returns-in-Err-clause-only g c known = root_known c.args.descriptor.now _ (entry c.args.book.now) c.requires.alone
