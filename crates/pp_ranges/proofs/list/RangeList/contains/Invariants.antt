use Rattle.std.proofs.Common.{◌≡◌, false, take}
use Rattle.pp_terms.specs.tree.Range.{has}
use Rattle.pp_ranges.proofs.list.RangeList.contains.Given as goal

abbrev pub invariant-loop-range : goal.invariant-loop-range
invariant-loop-range l = has (take l.range-index l.range-items) l.i ≡ false
