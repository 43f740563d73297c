use Rattle.pp_store.proofs.Upgrades.{sealed_by, left_by}
use Rattle.pp_store.specs.Upgrade.{verified}
use Rattle.pp_store.proofs.finishing.seal_synced.Goals as goal

pub returns-in-Ok-finish-clause-answer : goal.returns-in-Ok-finish-clause-answer
returns-in-Ok-finish-clause-answer g c =
    sealed_by c.args.descriptor.now (g.D.Disk.state c.args.disk.now) (g.D.Disk.state c.verify.new.disk) (g.D.Disk.state c.finish.new.disk) _ c.in-Ok.set
    c.in-Ok.ensures.found c.in-Ok.ensures.looks c.in-Ok-finish.ensures.done

pub returns-in-Ok-finish-clause-left : goal.returns-in-Ok-finish-clause-left
returns-in-Ok-finish-clause-left g c =
    left_by c.args.descriptor.now (g.D.Disk.state c.args.disk.now) (g.D.Disk.state c.verify.new.disk) (g.D.Disk.state c.finish.new.disk) _ c.in-Ok.set
    c.in-Ok.ensures.found c.in-Ok.ensures.looks c.in-Ok-finish.ensures.left

pub returns-in-Err-Memory-clause-left : goal.returns-in-Err-Memory-clause-left
returns-in-Err-Memory-clause-left g c known = verified _ c.in-Err-Memory.ensures.looks.same

pub returns-in-Err-Disk-clause-left : goal.returns-in-Err-Disk-clause-left
returns-in-Err-Disk-clause-left g c known = verified _ c.in-Err-Disk.ensures.looks.same

pub returns-in-Err-clause-left : goal.returns-in-Err-clause-left
returns-in-Err-clause-left g c =
    left_by c.args.descriptor.now (g.D.Disk.state c.args.disk.now) (g.D.Disk.state c.verify.new.disk) (g.D.Disk.state c.finish.new.disk) _ c.in-Ok.set
    c.in-Ok.ensures.found c.in-Ok.ensures.looks c.in-Err.ensures.left
