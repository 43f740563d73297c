use Rattle.std.proofs.Common.{◌≡◌, ℕ, ◌<◌, ◌≤◌, drop}
use Rattle.pp_adapt.specs.Extents.{is_covered}
use Rattle.pp_adapt.proofs.extents.meets.Given as goal

abbrev pub invariant-loop-extent : goal.invariant-loop-extent
invariant-loop-extent l =
    (k : ℕ) → l.start ≤ k → k < l.end → is_covered l.extents k ≡ is_covered (drop l.extent-index l.extents) k
