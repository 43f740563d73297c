use Rattle.std.proofs.Common.{refl}
use Rattle.pp_node.proofs.Lines.{says, not_empty_is, source_fault_is, disk_fault_is}
use Rattle.pp_node.proofs.Upgrades.{reports_upgrade}
use Rattle.pp_node.proofs.upgrading.report.Goals as goal

pub returns-in-NotEmpty : goal.returns-in-NotEmpty
returns-in-NotEmpty g c =
    reports_upgrade _ _ _ _ _ c.in-NotEmpty.is (refl, says _ _ _ _ c.put_counted.result (not_empty_is _) c.put_counted.ensures.gained c.put_counted.ensures.cause)

pub returns-in-NotAStore : goal.returns-in-NotAStore
returns-in-NotAStore g c =
    reports_upgrade _ _ _ _ _ c.in-NotAStore.is (refl, says _ _ _ _ c.put_not_a_store.result refl c.put_not_a_store.ensures.gained c.put_not_a_store.ensures.cause)

pub returns-in-Source : goal.returns-in-Source
returns-in-Source g c =
    reports_upgrade _ _ _ _ _ c.in-Source.is (refl, says _ _ _ _ c.put_all.result source_fault_is c.put_all.ensures.gained c.put_all.ensures.cause)

pub returns-in-Disk : goal.returns-in-Disk
returns-in-Disk g c =
    reports_upgrade _ _ _ _ _ c.in-Disk.is (refl, says _ _ _ _ c.put_all-in-Disk.result disk_fault_is c.put_all-in-Disk.ensures.gained c.put_all-in-Disk.ensures.cause)
