use Rattle.std.proofs.Common.{◌≡◌, take}
use Rattle.std.specs.List.{filter}
use Rattle.pp_ranges.specs.Edits.{is_apart}
use Rattle.pp_ranges.proofs.list.RangeList.remove_wide.Given as goal

abbrev pub invariant-loop-next : goal.invariant-loop-next
invariant-loop-next l = l.ranges.items ≡ filter (is_apart l.range) (take l.next-index l.next-items)
