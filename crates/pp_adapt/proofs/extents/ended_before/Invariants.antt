use Rattle.std.proofs.Common.{◌≡◌, ◌+◌, drop}
use Rattle.pp_adapt.specs.Extents.{ended_before}
use Rattle.pp_adapt.proofs.extents.ended_before.Given as goal

abbrev pub invariant-loop-i : goal.invariant-loop-i
invariant-loop-i l = ended_before l.start l.extents ≡ l.i + ended_before l.start (drop l.i l.extents)
