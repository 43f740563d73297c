use Rattle.std.proofs.Common.{◌≡◌, ℕ, ◌+◌, ◌<◌, ◌≤◌, true, length, slice_index}
use Rattle.pp_tree.specs.Scan.{as_hex}
use Rattle.pp_targets.proofs.form.skip_root.Given as goal

abbrev pub invariant-loop-i : goal.invariant-loop-i
invariant-loop-i l =
    (l.at + l.i ≤ length l.bytes) × ((k : ℕ) → k < l.i → as_hex k (slice_index l.bytes (l.at + k)) ≡ true)
