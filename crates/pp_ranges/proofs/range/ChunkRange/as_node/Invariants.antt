use Rattle.std.proofs.Common.{◌≡◌, ℕ, ◌<◌, ◌^◌, ◌%◌}
use Rattle.pp_ranges.proofs.range.ChunkRange.as_node.Given as goal

abbrev pub invariant-loop-layer : goal.invariant-loop-layer
invariant-loop-layer l = (k : ℕ) → k < l.layer → 2 ^ k ≡ l.span → l.first % l.span ≡ 0 → ⊥
