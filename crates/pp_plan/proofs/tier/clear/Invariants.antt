-- The words so far have no bit, and the rest are as they were.
use Rattle.std.proofs.Common.{◌≡◌, ℕ, ◌*◌, ◌^◌, ◌<◌, ◌≤◌, length, slice_index}
use Rattle.pp_plan.specs.Tiers.{IsLacking}
use Rattle.pp_plan.proofs.tier.clear.Given as goal

abbrev pub invariant-loop-k : goal.invariant-loop-k
invariant-loop-k l = record {
  len : length l.words ≡ length l.fn.words;
  lacks : IsLacking l.words l.lacks;
  fits : (w : ℕ) → slice_index l.fn.words w < 2 ^ 64;
  none : (w : ℕ) → w < 64 * l.k → slice_index l.words w ≡ 0;
  rest : (w : ℕ) → 64 * l.k ≤ w → slice_index l.words w ≡ slice_index l.fn.words w;
}
