-- The bits of the words so far are written.
use Rattle.std.proofs.Common.{◌≡◌, ℕ, ◌*◌, ◌/◌, ◌≤◌, nat_le, nat_lt, ◌&&◌, cond, length}
use Rattle.pp_tree.specs.Bits.{bit_of}
use Rattle.pp_story.proofs.asked.write.Given as goal

abbrev pub invariant-loop-w : goal.invariant-loop-w
invariant-loop-w l = record {
  from : l.first / 64 ≤ l.w;
  len : length l.words ≡ length l.fn.words;
  bits : (i : ℕ) → bit_of l.words i ≡ cond (nat_le l.first i && nat_le i l.last && nat_lt i (64 * l.w)) l.value (bit_of l.fn.words i);
}
