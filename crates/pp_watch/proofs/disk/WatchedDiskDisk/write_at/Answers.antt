use Rattle.pp_watch.proofs.Doings.{writes}
use Rattle.pp_watch.proofs.disk.WatchedDiskDisk.write_at.Goals as goal

pub invariant_of-self : goal.invariant_of-self
invariant_of-self g c = writes _ _ _ _ _ _ c.write_at.ensures.exactly c.self.invariant
