-- No chunk of the words before the place is found.
use Rattle.std.proofs.Common.{◌≡◌, ℕ, ◌-◌, ◌/◌, ◌<◌, false, length}
use Rattle.pp_avail.specs.Levels.{is_found}
use Rattle.pp_avail.proofs.copies.Copies.first_of.Given as goal

abbrev pub invariant-loop-w : goal.invariant-loop-w
invariant-loop-w l = (i : ℕ) → i / 64 < l.from → is_found l.wanted l.row l.self l.copies i ≡ false

abbrev pub decreases-loop-w : goal.decreases-loop-w
decreases-loop-w l = length l.self - l.from
