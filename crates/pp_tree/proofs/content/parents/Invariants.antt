use Rattle.std.proofs.Common.{◌≡◌, ℕ, ◌+◌, ◌*◌, ◌<◌, ◌++◌, length, [], slice_index_or}
use Rattle.sha2.specs.Sha256.{sha256}
use Rattle.pp_terms.specs.tree.Tree.{empty_hash}
use Rattle.pp_tree.proofs.content.parents.Given as goal

abbrev pub invariant-loop-j : goal.invariant-loop-j
invariant-loop-j l =
    (length l.digests.items ≡ l.j)
    × ((k : ℕ) → k < l.j → slice_index_or l.digests.items k []
    ≡ sha256 (slice_index_or l.layer (2 * k) [] ++ slice_index_or l.layer (2 * k + 1) empty_hash))
