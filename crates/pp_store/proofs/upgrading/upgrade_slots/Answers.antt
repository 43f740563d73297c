use Rattle.pp_tree.specs.Book.{entry}
use Rattle.pp_store.proofs.Upgrades.{front_fault, copying_fault, slots_done}
use Rattle.pp_store.proofs.upgrading.upgrade_slots.Goals as goal

pub returns-in-Ok-copy_file-clause-does : goal.returns-in-Ok-copy_file-clause-does
returns-in-Ok-copy_file-clause-does g c =
    let copied = c.in-Ok-copy_file.ensures in
    slots_done c.args.descriptor.now c.requires.valid (g.S.Source.state c.args.source.now) (g.S.Source.state c.copy_file.new.source)
    (g.D.Disk.state c.args.disk.now) (g.D.Disk.state c.keep_front.new.disk) (g.D.Disk.state c.copy_file.new.disk) _ c.requires.empty c.in-Ok.ensures
    copied.behind copied.takes copied.source (g.D.Disk.state c.seal.new.disk) (entry c.seal.new.book) copied.copied copied.long
    c.seal.ensures.left c.seal.ensures.disk c.seal.result c.seal.ensures.answer

pub returns-in-Err-copy_file-clause-does : goal.returns-in-Err-copy_file-clause-does
returns-in-Err-copy_file-clause-does g c =
    let copied = c.in-Err-copy_file.ensures in
    copying_fault c.args.descriptor.now c.requires.valid (g.S.Source.state c.args.source.now) (g.S.Source.state c.copy_file.new.source)
    (g.D.Disk.state c.args.disk.now) (g.D.Disk.state c.keep_front.new.disk) (g.D.Disk.state c.copy_file.new.disk) _ c.requires.empty c.in-Ok.ensures
    copied.behind copied.takes copied.source (entry c.args.book.now) c.in-Err-copy_file.fault copied.fault

pub returns-in-Err-clause-does : goal.returns-in-Err-clause-does
returns-in-Err-clause-does g c =
    front_fault c.args.descriptor.now (g.S.Source.state c.args.source.now) (g.D.Disk.state c.args.disk.now) (g.D.Disk.state c.keep_front.new.disk)
    (entry c.args.book.now) _ c.requires.valid c.requires.empty c.in-Err.ensures
