use Rattle.pp_watch.proofs.Doings.{begun}
use Rattle.pp_watch.proofs.disk.WatchedDisk.new.Goals as goal

pub invariant_of-result : goal.invariant_of-result
invariant_of-result g c = begun _ _ c.requires
