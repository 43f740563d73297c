use Rattle.std.proofs.Common.{arith}
use Rattle.pp_tree.specs.Book.{entry}
use Rattle.pp_store.proofs.Upgrades.{upgrade_done, header_fault, no_memory}
use Rattle.pp_store.proofs.upgrading.upgrade_to_empty.Goals as goal

pub returns-in-Ok-check_header-clause-does : goal.returns-in-Ok-check_header-clause-does
returns-in-Ok-check_header-clause-does g c =
    let header = c.in-Ok-check_header.ensures in
    upgrade_done c.args.descriptor.now (g.S.Source.state c.args.source.now) (g.S.Source.state c.check_header.new.source) (g.S.Source.state c.upgrade_slots.new.source)
    (g.D.Disk.state c.args.disk.now) (g.D.Disk.state c.upgrade_slots.new.disk) (entry c.upgrade_slots.new.book) c.requires.empty header.takes header.source header.read
    c.upgrade_slots.result c.upgrade_slots.ensures.does

pub returns-in-Err-check_header-clause-does : goal.returns-in-Err-check_header-clause-does
returns-in-Err-check_header-clause-does g c =
    let header = c.in-Err-check_header.ensures in
    header_fault c.args.descriptor.now (g.S.Source.state c.args.source.now) (g.S.Source.state c.check_header.new.source) (g.D.Disk.state c.args.disk.now)
    _ c.requires.empty header.takes header.source c.in-Err-check_header.fault header.fault

pub returns-in-Err-clause-does : goal.returns-in-Err-clause-does
returns-in-Err-clause-does g c =
    no_memory c.args.descriptor.now (g.S.Source.state c.args.source.now) (g.S.Source.state c.args.source.now) (g.D.Disk.state c.args.disk.now)
    _ c.requires.empty (λ content told. (0, omega arith, told)) (omega arith)
