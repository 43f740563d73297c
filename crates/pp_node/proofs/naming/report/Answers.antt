use Rattle.std.proofs.Common.{refl}
use Rattle.pp_node.proofs.Lines.{says, disk_fault_is, content_size_is}
use Rattle.pp_node.proofs.ByName.{reports_naming}
use Rattle.pp_node.proofs.naming.report.Goals as goal

pub returns-in-NotAStore : goal.returns-in-NotAStore
returns-in-NotAStore g c =
    reports_naming _ _ _ _ _ c.in-NotAStore.is (refl, says _ _ _ _ c.put_not_a_store.result refl c.put_not_a_store.ensures.gained c.put_not_a_store.ensures.cause)

pub returns-in-Size : goal.returns-in-Size
returns-in-Size g c =
    reports_naming _ _ _ _ _ c.in-Size.is (refl, says _ _ _ _ c.put_counted.result (content_size_is _) c.put_counted.ensures.gained c.put_counted.ensures.cause)

pub returns-in-Shape : goal.returns-in-Shape
returns-in-Shape g c =
    reports_naming _ _ _ _ _ c.in-Shape.is (refl, says _ _ _ _ c.put_shape.result refl c.put_shape.ensures.gained c.put_shape.ensures.cause)

pub returns-in-Disk : goal.returns-in-Disk
returns-in-Disk g c =
    reports_naming _ _ _ _ _ c.in-Disk.is (refl, says _ _ _ _ c.put_all.result disk_fault_is c.put_all.ensures.gained c.put_all.ensures.cause)
