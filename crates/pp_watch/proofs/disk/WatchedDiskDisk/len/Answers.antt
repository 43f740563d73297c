use Rattle.pp_watch.proofs.Doings.{measures}
use Rattle.pp_watch.proofs.disk.WatchedDiskDisk.len.Goals as goal

pub invariant_of-self : goal.invariant_of-self
invariant_of-self g c = measures _ _ _ _ c.len.ensures.exactly c.self.invariant
