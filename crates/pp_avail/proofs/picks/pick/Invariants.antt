use Rattle.std.proofs.Common.{◌<◌, ◌≤◌}
use Rattle.pp_avail.specs.Offers.{copies}
use Rattle.pp_avail.specs.Choices.{IsBest}
use Rattle.pp_avail.proofs.picks.pick.Given as goal

abbrev pub invariant-loop-fewer : goal.invariant-loop-fewer
invariant-loop-fewer g l = IsBest l.ranker.kind l.avail l.seat l.wanted (λ j. (0 < copies l.avail j) × (copies l.avail j ≤ l.fewer)) l.best
