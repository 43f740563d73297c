use Rattle.std.proofs.Common.{◌≡◌, ◌≤◌, ◌++◌, ◌||◌, take, drop, length, map}
use Rattle.pp_traffic.specs.Meter.{hits, flying, loses}
use Rattle.pp_story.specs.Flights.{flown_of}
use Rattle.pp_story.proofs.flight.settle.Given as goal

-- what is kept and what is left to look at give all that flies on
abbrev pub invariant-loop-i : goal.invariant-loop-i
invariant-loop-i l = record {
  within : l.kept ≤ l.i;
  same : length l.entries ≡ length l.fn.entries;
  left : drop l.i l.entries ≡ drop l.i l.fn.entries;
  newer_is : l.newer ≡ hits l.span.first l.span.last (map flown_of (drop l.i l.fn.entries));
  flies : map flown_of (take l.kept l.entries) ++ flying l.span.first l.span.last (map flown_of (drop l.i l.fn.entries))
      ≡ flying l.span.first l.span.last (map flown_of l.fn.entries);
  lost : l.has_lost || loses l.span.first l.span.last (map flown_of (drop l.i l.fn.entries)) ≡ loses l.span.first l.span.last (map flown_of l.fn.entries);
}
