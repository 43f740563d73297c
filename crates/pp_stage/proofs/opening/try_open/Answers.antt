use Rattle.std.proofs.Common.{refl, sym, ap, subst}
use Rattle.std.specs.Prelude.{IfOk}
use Rattle.pp_terms.specs.disk.Disk.{DiskState}
use Rattle.pp_outside.specs.MemoryDisk as disks
use Rattle.pp_outside.specs.declared.memory_disk.MemoryDisk.{MemoryDisk}
use Rattle.pp_stage.specs.Opening.{Begins, LosesNothing}
use Rattle.pp_stage.proofs.Opens.{begins_if}
use Rattle.pp_stage.proofs.opening.try_open.Goals as goal

pub returns-clause-begins : goal.returns-clause-begins
returns-clause-begins g c =
    let opens = c.open-peer.ensures in
    subst (λ (m : MemoryDisk). IfOk c.open-peer.result (Begins c.args.descriptor.now c.args.start.now (disks.state_of m) (disks.state_of c.into_inner.result)))
    c.new-disk.ensures
    (begins_if c.args.descriptor.now c.args.start.now (disks.state_of c.new-disk.result) (disks.state_of c.into_inner.result)
    (disks.state_of c.open-peer.new.disk) c.open-peer.result (ap disks.state_of (sym c.into_inner.ensures.is)) opens.begun opens.stands opens.had
    opens.scanned (opens.kept refl) (opens.taken refl))

pub returns-clause-lasts : goal.returns-clause-lasts
returns-clause-lasts g c =
    let opens = c.open-peer.ensures in
    subst (λ (m : MemoryDisk). LosesNothing c.args.descriptor.now (disks.state_of m).history (disks.state_of c.into_inner.result).history) c.new-disk.ensures
    (subst (λ (s : DiskState). LosesNothing c.args.descriptor.now (disks.state_of c.new-disk.result).history s.history)
    (ap disks.state_of (sym c.into_inner.ensures.is)) (record { stands = opens.goes_on refl; sound = opens.sound refl }))
