use Rattle.std.proofs.Common.{◌≡◌, ℕ, ◌<◌}
use Rattle.pp_promises.specs.Batches as promises
use Rattle.pp_audit.specs.Batches as terms
use Rattle.pp_audit.specs.Batches.{batch_of}
use Rattle.pp_audit.proofs.batches.keeps.Given as goal

abbrev pub invariant-loop-chunk : goal.invariant-loop-chunk
invariant-loop-chunk l =
    (i : ℕ) → i < l.chunk → promises.is_in (batch_of l.new) i ≡ terms.is_in (batch_of l.old).committed l.stored (batch_of l.old).pending i
