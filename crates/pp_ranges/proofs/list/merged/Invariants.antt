use Rattle.std.proofs.Common.{◌≡◌, ◌+◌, ◌≤◌, Some, ◌++◌, length, drop}
use Rattle.pp_ranges.specs.Edits.{inserted, pending_count}
use Rattle.pp_ranges.proofs.list.merged.Given as goal

abbrev pub invariant-loop-next : goal.invariant-loop-next
invariant-loop-next l =
    (length l.ranges.items + pending_count l.pending ≤ l.next-index + 1)
    × (l.ranges.items ++ inserted l.pending (drop l.next-index l.list) ≡ inserted (Some l.fn.range) l.list)
