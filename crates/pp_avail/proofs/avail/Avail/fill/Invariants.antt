-- The words before the next are filled.
use Rattle.std.proofs.Common.{◌≡◌, ℕ, ◌+◌, ◌-◌, ◌/◌, ◌≤◌, ◌==◌, nat_le, nat_lt, ◌&&◌, ◌||◌}
use Rattle.pp_avail.specs.Offers.{has}
use Rattle.pp_avail.proofs.avail.Avail.fill.Given as goal

abbrev pub invariant-loop-w : goal.invariant-loop-w
invariant-loop-w l =
    (l.self.chunks ≡ l.fn.self.chunks)
    × (l.first / 64 ≤ l.next)
    × ((s i : ℕ) → has l.self s i ≡ (has l.fn.self s i || (s == l.seat && ((nat_le l.first i && nat_le i l.last) && nat_lt (i / 64) l.next))))

abbrev pub decreases-loop-w : goal.decreases-loop-w
decreases-loop-w l = l.to + 1 - l.next
