use Rattle.std.proofs.Common.{◌≡◌, ◌||◌, drop, map}
use Rattle.pp_audit.specs.Batches as terms
use Rattle.pp_audit.specs.Batches.{pending_of}
use Rattle.pp_audit.proofs.batches.is_late.Given as goal

abbrev pub invariant-loop-one : goal.invariant-loop-one
invariant-loop-one l = (l.found || terms.is_late l.now (map pending_of (drop l.one-index l.pending))) ≡ terms.is_late l.now (map pending_of l.pending)
