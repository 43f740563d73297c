use Rattle.pp_watch.proofs.Doings.{attaches}
use Rattle.pp_watch.proofs.disk.WatchedDiskDisk.attach.Goals as goal

pub invariant_of-self : goal.invariant_of-self
invariant_of-self g c = attaches _ _ _ _ c.attach.ensures.exactly c.self.invariant
