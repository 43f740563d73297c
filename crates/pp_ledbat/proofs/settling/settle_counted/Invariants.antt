use Rattle.std.proofs.Common.{◌≡◌, ◌≤◌, ◌++◌, ◌||◌, take, drop, length}
use Rattle.pp_traffic.specs.Meter.{hits, flying, loses}
use Rattle.pp_ledbat.proofs.settling.settle_counted.Given as goal

-- what is kept and what is left to look at give all that flies on
abbrev pub invariant-loop-i : goal.invariant-loop-i
invariant-loop-i l = record {
  within : l.kept ≤ l.i;
  same : length l.entries ≡ length l.fn.entries;
  left : drop l.i l.entries ≡ drop l.i l.fn.entries;
  newer_is : l.newer ≡ hits l.range.first l.range.last (drop l.i l.fn.entries);
  flies : take l.kept l.entries ++ flying l.range.first l.range.last (drop l.i l.fn.entries) ≡ flying l.range.first l.range.last l.fn.entries;
  lost : l.has_lost || loses l.range.first l.range.last (drop l.i l.fn.entries) ≡ loses l.range.first l.range.last l.fn.entries;
}
