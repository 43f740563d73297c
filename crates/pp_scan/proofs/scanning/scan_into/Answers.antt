use Rattle.pp_tree.specs.Book.{entry}
use Rattle.pp_tree.proofs.Rootedness.{book_alone}
use Rattle.pp_scan.proofs.Finding.{found_synced, only_synced}
use Rattle.pp_scan.proofs.Holds.{root_known}
use Rattle.pp_scan.proofs.scanning.scan_into.Goals as goal

pub returns-in-Ok-clause-found : goal.returns-in-Ok-clause-found
returns-in-Ok-clause-found g c =
    found_synced c.args.descriptor.now (g.D.Disk.state c.args.disk.now) (g.D.Disk.state c.sync.new.self) (g.D.Disk.state c.scan_synced.new.disk) (entry c.scan_synced.new.book)
    _ c.in-Ok.ensures _ c.scan_synced.result c.scan_synced.ensures.found

pub returns-in-Ok-clause-only : goal.returns-in-Ok-clause-only
returns-in-Ok-clause-only g c =
    only_synced c.args.descriptor.now (g.D.Disk.state c.args.disk.now) (g.D.Disk.state c.sync.new.self) (g.D.Disk.state c.scan_synced.new.disk) (entry c.scan_synced.new.book)
    _ c.in-Ok.ensures c.scan_synced.ensures.only

pub returns-in-Err-clause-book : goal.returns-in-Err-clause-book
returns-in-Err-clause-book g c =
    book_alone c.args.descriptor.now c.args.book.now c.chunks.ensures.valid.root_length c.requires.descriptor c.requires.alone

pub returns-in-Err-clause-only : goal.returns-in-Err-clause-only
returns-in-Err-clause-only g c known = root_known c.args.descriptor.now _ (entry c.args.book.now) c.requires.alone
