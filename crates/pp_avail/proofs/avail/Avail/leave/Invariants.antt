-- The seat offers nothing of the words before the next.
use Rattle.std.proofs.Common.{◌≡◌, ℕ, ◌-◌, ◌/◌, ◌==◌, nat_lt, not, ◌&&◌}
use Rattle.pp_avail.specs.Offers.{has}
use Rattle.pp_avail.proofs.avail.Avail.leave.Given as goal

abbrev pub invariant-loop-w : goal.invariant-loop-w
invariant-loop-w l =
    (l.self.chunks ≡ l.fn.self.chunks)
    × ((s i : ℕ) → has l.self s i ≡ (not (s == l.seat && nat_lt (i / 64) l.next) && has l.fn.self s i))

abbrev pub decreases-loop-w : goal.decreases-loop-w
decreases-loop-w l = l.self.chunks - l.next
