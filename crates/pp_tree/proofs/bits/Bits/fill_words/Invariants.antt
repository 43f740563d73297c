-- The words so far are full.
use Rattle.std.proofs.Common.{◌≡◌, ℕ, ◌*◌, ◌-◌, ◌≤◌, nat_le, nat_lt, false, ◌&&◌, ◌||◌, length, slice_index_or}
use Rattle.pp_tree.proofs.bits.Bits.fill_words.Given as goal

abbrev pub invariant-loop-w : goal.invariant-loop-w
invariant-loop-w l =
    (l.low ≤ l.w)
    × (l.w ≤ l.high)
    × (length l.self ≡ length l.fn.self)
    × ((i : ℕ) → slice_index_or l.self i false ≡ (slice_index_or l.fn.self i false || (nat_le (64 * l.low) i && nat_lt i (64 * l.w))))

abbrev pub decreases-loop-w : goal.decreases-loop-w
decreases-loop-w l = l.high - l.w
