use Rattle.std.proofs.Common.{◌≡◌, ℕ, ◌≤◌, false, length, get_or}
use Rattle.pp_wanting.specs.Wants.{again}
use Rattle.pp_wanting.proofs.wanting.want_again.Given as goal

abbrev pub invariant-loop-i : goal.invariant-loop-i
invariant-loop-i l = record {
  low : l.from ≤ l.i;
  size : length l.wanted ≡ length l.initial.wanted;
  each : (k : ℕ) → get_or l.wanted k false ≡ again l.had l.asked l.initial.wanted l.from l.i l.is_below k;
}
