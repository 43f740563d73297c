use Rattle.pp_tree.specs.Book.{entry}
use Rattle.pp_tree.proofs.Rootedness.{book_alone}
use Rattle.pp_scan.proofs.Reading.{len_keeps}
use Rattle.pp_scan.proofs.Finding.{verified_after, only_after}
use Rattle.pp_scan.proofs.Holds.{root_known}
use Rattle.pp_scan.proofs.verifying.verify.Goals as goal

pub returns-in-Ok-len-clause-found : goal.returns-in-Ok-len-clause-found
returns-in-Ok-len-clause-found g c =
    verified_after _ c.args.descriptor.now (g.D.Disk.state c.args.disk.now) (g.D.Disk.state c.len.new.self) (g.D.Disk.state c.verify_file.new.disk) (entry c.verify_file.new.book)
    c.verify_file.result (len_keeps _ _ _ c.len.ensures) c.verify_file.ensures.found

pub returns-in-Ok-len-clause-only : goal.returns-in-Ok-len-clause-only
returns-in-Ok-len-clause-only g c =
    only_after c.args.descriptor.now (g.D.Disk.state c.args.disk.now) (g.D.Disk.state c.len.new.self) (entry c.verify_file.new.book) (len_keeps _ _ _ c.len.ensures) c.verify_file.ensures.only

pub returns-in-Err-len-clause-book : goal.returns-in-Err-len-clause-book
returns-in-Err-len-clause-book g c =
    book_alone c.args.descriptor.now c.args.book.now c.chunks.ensures.valid.root_length c.requires.descriptor c.requires.alone

pub returns-in-Err-len-clause-only : goal.returns-in-Err-len-clause-only
returns-in-Err-len-clause-only g c known = root_known c.args.descriptor.now _ (entry c.args.book.now) c.requires.alone
