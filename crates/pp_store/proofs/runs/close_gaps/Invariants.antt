use Rattle.std.proofs.Common.{◌≡◌, ℕ, ◌+◌, ◌*◌, ◌≤◌}
use Rattle.std.specs.Prelude.{slice_index}
use Rattle.pp_store.specs.Runs.{AreTogether}
use Rattle.pp_store.proofs.runs.close_gaps.Given as goal

abbrev pub invariant-loop-k : goal.invariant-loop-k
invariant-loop-k l = record {
  together : AreTogether l.chunk l.k l.initial.out l.out;
  rest : (i : ℕ) → l.k * (l.chunk + 65) ≤ i → slice_index l.out i ≡ slice_index l.initial.out i;
}
