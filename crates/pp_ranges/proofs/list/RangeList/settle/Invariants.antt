use Rattle.std.proofs.Common.{◌≡◌, take}
use Rattle.pp_ranges.proofs.list.RangeList.settle.Given as goal

abbrev pub invariant-loop-range : goal.invariant-loop-range
invariant-loop-range l = l.kept.items ≡ take l.range-index l.ranges
