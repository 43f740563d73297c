use Rattle.std.proofs.Common.{◌≡◌, ℕ, ◌<◌, length, slice_index}
use Rattle.pp_tree.specs.Marks.{full_word}
use Rattle.pp_tree.proofs.words.ones.Given as goal

abbrev pub invariant-loop-w : goal.invariant-loop-w
invariant-loop-w l = (length l.words.items ≡ l.w) × ((v : ℕ) → v < l.w → slice_index l.words.items v ≡ full_word l.count v)
