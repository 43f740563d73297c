-- No number of the words before is a member of all three.
use Rattle.std.proofs.Common.{◌≡◌, ℕ, ◌*◌, ◌-◌, ◌<◌, false, length}
use Rattle.pp_tree.specs.Sets.{is_in_all}
use Rattle.pp_tree.proofs.members.Members.first_common.Given as goal

abbrev pub invariant-loop-w : goal.invariant-loop-w
invariant-loop-w l = (k : ℕ) → k < 64 * l.from → is_in_all l.self l.other l.third k ≡ false

abbrev pub decreases-loop-w : goal.decreases-loop-w
decreases-loop-w l = length l.self-inside.words.items - l.from
