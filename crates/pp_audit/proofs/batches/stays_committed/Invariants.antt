use Rattle.std.proofs.Common.{◌≡◌, ℕ, ◌<◌, true, false}
use Rattle.std.specs.Prelude.{slice_index_or}
use Rattle.pp_audit.proofs.batches.stays_committed.Given as goal

abbrev pub invariant-loop-chunk : goal.invariant-loop-chunk
invariant-loop-chunk l = (i : ℕ) → i < l.chunk → slice_index_or l.old i false ≡ true → slice_index_or l.new i false ≡ true
