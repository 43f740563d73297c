use Rattle.std.proofs.Common.{◌≡◌, ◌||◌, drop, map}
use Rattle.pp_promises.specs.Batches as promises
use Rattle.pp_audit.specs.Batches.{pending_of}
use Rattle.pp_audit.proofs.batches.is_among.Given as goal

abbrev pub invariant-loop-other : goal.invariant-loop-other
invariant-loop-other l = (l.found || promises.is_among (pending_of l.pending) (map pending_of (drop l.other-index l.all))) ≡ promises.is_among (pending_of l.pending) (map pending_of l.all)
