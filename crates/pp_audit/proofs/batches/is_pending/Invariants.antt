use Rattle.std.proofs.Common.{◌≡◌, ◌||◌, eqb, drop, map}
use Rattle.std.specs.List.{list_any}
use Rattle.pp_audit.specs.Batches.{pending_of}
use Rattle.pp_audit.proofs.batches.is_pending.Given as goal

abbrev pub invariant-loop-other : goal.invariant-loop-other
invariant-loop-other l = (l.found || list_any (λ p. eqb p.chunk l.chunk) (map pending_of (drop l.other-index l.pending))) ≡ list_any (λ p. eqb p.chunk l.chunk) (map pending_of l.pending)
