-- No bit is set from the place on up to the one that is looked at.
use Rattle.std.proofs.Common.{◌≡◌, ℕ, ◌+◌, ◌*◌, ◌<◌, ◌≤◌, false}
use Rattle.pp_tree.specs.Bits.{bit_of}
use Rattle.pp_tree.proofs.words.next_set.Given as goal

abbrev pub invariant-loop-w : goal.invariant-loop-w
invariant-loop-w l =
    (l.place < 64)
    × (l.from ≤ 64 * l.w + l.place)
    × ((k : ℕ) → l.from ≤ k → k < 64 * l.w + l.place → bit_of l.words k ≡ false)
