use Rattle.pp_watch.proofs.Doings.{reads}
use Rattle.pp_watch.proofs.disk.WatchedDiskDisk.read_at.Goals as goal

pub invariant_of-self : goal.invariant_of-self
invariant_of-self g c = reads _ _ _ _ _ _ _ c.read_at.ensures.exactly c.self.invariant
