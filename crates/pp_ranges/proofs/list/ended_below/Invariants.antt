use Rattle.pp_ranges.proofs.Fronts.{IsPassed}
use Rattle.pp_ranges.proofs.list.ended_below.Given as goal

abbrev pub invariant-loop-n : goal.invariant-loop-n
invariant-loop-n l = IsPassed l.i l.list l.n l.count
