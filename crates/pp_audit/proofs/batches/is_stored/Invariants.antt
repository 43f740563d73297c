use Rattle.std.proofs.Common.{◌≡◌, ◌||◌, eqb, drop}
use Rattle.std.specs.List.{list_any}
use Rattle.pp_audit.proofs.batches.is_stored.Given as goal

abbrev pub invariant-loop-other : goal.invariant-loop-other
invariant-loop-other l = (l.found || list_any (λ k. eqb k l.chunk) (drop l.other-index l.stored)) ≡ list_any (λ k. eqb k l.chunk) l.stored
