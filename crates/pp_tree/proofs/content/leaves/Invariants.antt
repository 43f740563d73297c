use Rattle.std.proofs.Common.{◌≡◌, ℕ, ◌+◌, ◌-◌, ◌*◌, ◌<◌, length, [], slice_index_or}
use Rattle.pp_terms.specs.tree.Tree.{leaf_of}
use Rattle.pp_tree.proofs.content.leaves.Given as goal

abbrev pub invariant-loop-start : goal.invariant-loop-start
invariant-loop-start l =
    (l.start ≡ length l.digests.items * l.chunk) × (l.start < length l.content + l.chunk)
    × ((i : ℕ) → i < length l.digests.items → slice_index_or l.digests.items i [] ≡ leaf_of l.content l.chunk i)

abbrev pub decreases-loop-start : goal.decreases-loop-start
decreases-loop-start l = length l.content - l.start
