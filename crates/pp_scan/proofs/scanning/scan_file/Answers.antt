use Rattle.pp_tree.specs.Book.{entry}
use Rattle.pp_tree.proofs.Rootedness.{book_alone}
use Rattle.pp_scan.proofs.Finding.{found_after, only_after}
use Rattle.pp_scan.proofs.Holds.{root_known}
use Rattle.pp_scan.proofs.scanning.scan_file.Goals as goal

pub returns-in-Ok-None-clause-found : goal.returns-in-Ok-None-clause-found
returns-in-Ok-None-clause-found g c =
    found_after c.args.descriptor.now (g.D.Disk.state c.args.disk.now) (g.D.Disk.state c.header_difference.new.disk) (g.D.Disk.state c.scan_tree.new.disk) (entry c.scan_tree.new.book)
    c.scan_tree.result c.in-Ok-None.ensures.looks.keeps c.scan_tree.ensures.found

pub returns-in-Ok-Some-clause-only : goal.returns-in-Ok-Some-clause-only
returns-in-Ok-Some-clause-only g c known = root_known c.args.descriptor.now _ (entry c.args.book.now) c.requires.alone

pub returns-in-Ok-None-clause-only : goal.returns-in-Ok-None-clause-only
returns-in-Ok-None-clause-only g c =
    only_after c.args.descriptor.now (g.D.Disk.state c.args.disk.now) (g.D.Disk.state c.header_difference.new.disk) (entry c.scan_tree.new.book) c.in-Ok-None.ensures.looks.keeps c.scan_tree.ensures.only

pub returns-in-Ok-Some-clause-book : goal.returns-in-Ok-Some-clause-book
returns-in-Ok-Some-clause-book g c =
    book_alone c.args.descriptor.now c.args.book.now c.requires.valid.root_length c.requires.descriptor c.requires.alone

pub returns-in-Err-clause-book : goal.returns-in-Err-clause-book
returns-in-Err-clause-book g c =
    book_alone c.args.descriptor.now c.args.book.now c.requires.valid.root_length c.requires.descriptor c.requires.alone

pub returns-in-Err-clause-only : goal.returns-in-Err-clause-only
returns-in-Err-clause-only g c known = root_known c.args.descriptor.now _ (entry c.args.book.now) c.requires.alone
