use Rattle.std.proofs.Common.{◌≡◌, ℕ, ◌<◌, get_or}
use Rattle.pp_named.specs.Front.{IsFixed}
use Rattle.pp_named.proofs.front.fixed_difference.Given as goal

abbrev pub invariant-loop-at : goal.invariant-loop-at
invariant-loop-at l = (k : ℕ) → k < l.at → IsFixed k → get_or l.bytes k 0 ≡ get_or l.wanted k 0
