use Rattle.std.proofs.Common.{refl}
use Rattle.pp_node.proofs.Lines.{says, disk_fault_is}
use Rattle.pp_node.proofs.Seeds.{link_fault_is, reports_seed}
use Rattle.pp_node.proofs.seeding.report.Goals as goal

pub returns-in-NotAStore : goal.returns-in-NotAStore
returns-in-NotAStore g c =
    reports_seed _ _ _ _ _ c.in-NotAStore.is (refl, says _ _ _ _ c.put_not_a_store.result refl c.put_not_a_store.ensures.gained c.put_not_a_store.ensures.cause)

pub returns-in-Disk : goal.returns-in-Disk
returns-in-Disk g c =
    reports_seed _ _ _ _ _ c.in-Disk.is (refl, says _ _ _ _ c.put_all.result disk_fault_is c.put_all.ensures.gained c.put_all.ensures.cause)

pub returns-in-Link : goal.returns-in-Link
returns-in-Link g c =
    reports_seed _ _ _ _ _ c.in-Link.is (refl, says _ _ _ _ c.put_all-in-Link.result link_fault_is c.put_all-in-Link.ensures.gained c.put_all-in-Link.ensures.cause)
