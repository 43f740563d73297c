use Rattle.std.proofs.Common.{◌≡◌, ◌&&◌, drop, map}
use Rattle.pp_audit.specs.Batches as terms
use Rattle.pp_audit.specs.Batches.{pending_of}
use Rattle.pp_audit.proofs.batches.are_since.Given as goal

abbrev pub invariant-loop-one : goal.invariant-loop-one
invariant-loop-one l = (l.all && terms.are_since l.stored l.now (map pending_of l.old) (map pending_of (drop l.one-index l.new))) ≡ terms.are_since l.stored l.now (map pending_of l.old) (map pending_of l.new)
