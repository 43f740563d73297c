use Rattle.std.proofs.Common.{◌≡◌, ◌*◌, ◌≤◌, ◌++◌, length, drop}
use Rattle.pp_ranges.specs.Edits.{removed}
use Rattle.pp_ranges.proofs.list.without.Given as goal

abbrev pub invariant-loop-next : goal.invariant-loop-next
invariant-loop-next l =
    (length l.ranges.items ≤ 2 * l.next-index)
    × (l.ranges.items ++ removed l.range (drop l.next-index l.list) ≡ removed l.range l.list)
