-- All bits of the words so far are set.
use Rattle.std.proofs.Common.{◌≡◌, ℕ, ◌*◌, ◌-◌, ◌≤◌, nat_le, nat_lt, ◌&&◌, ◌||◌, length}
use Rattle.pp_tree.specs.Bits.{bit_of}
use Rattle.pp_plan.specs.Tiers.{IsLacking}
use Rattle.pp_plan.proofs.tier.fill_whole.Given as goal

abbrev pub invariant-loop-w : goal.invariant-loop-w
invariant-loop-w l = record {
  low : l.low ≤ l.w;
  high : l.w ≤ l.high;
  len : length l.words ≡ length l.fn.words;
  lacks : IsLacking l.words l.lacks;
  bits : (i : ℕ) → bit_of l.words i ≡ (bit_of l.fn.words i || (nat_le (64 * l.low) i && nat_lt i (64 * l.w)));
}

abbrev pub decreases-loop-w : goal.decreases-loop-w
decreases-loop-w l = l.high - l.w
