use Rattle.std.proofs.Common.{◌≡◌, ℕ, ◌-◌, ◌<◌, ◌≤◌, false, length, get_or}
use Rattle.std.specs.Prelude.{◌&&◌, is_some}
use Rattle.pp_tree.specs.Book.{entry}
use Rattle.pp_scan.proofs.gates.keep_leaves.Given as goal

abbrev pub invariant-loop-i : goal.invariant-loop-i
invariant-loop-i l = record {
  count : length l.set ≡ length l.initial.set;
  done : (k : ℕ) → k < l.from → get_or l.set k false ≡ (get_or l.initial.set k false && l.peaks && is_some (entry l.book 0 k));
  rest : (k : ℕ) → l.from ≤ k → get_or l.set k false ≡ get_or l.initial.set k false;
}

abbrev pub decreases-loop-i : goal.decreases-loop-i
decreases-loop-i l = length l.initial.set - l.from
