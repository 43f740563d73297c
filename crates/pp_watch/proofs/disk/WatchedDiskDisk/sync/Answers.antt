use Rattle.pp_watch.proofs.Doings.{syncs}
use Rattle.pp_watch.proofs.disk.WatchedDiskDisk.sync.Goals as goal

pub invariant_of-self : goal.invariant_of-self
invariant_of-self g c = syncs _ _ _ _ c.sync.ensures.exactly c.self.invariant
