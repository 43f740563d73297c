use Rattle.std.proofs.Common.{◌≡◌, ◌≤◌, map, take}
use Rattle.pp_traffic.specs.Meter.{hits}
use Rattle.pp_story.specs.Flights.{flown_of}
use Rattle.pp_story.proofs.flight.hits.Given as goal

abbrev pub invariant-loop-entry : goal.invariant-loop-entry
invariant-loop-entry l = record {
  counted : l.count ≡ hits l.span.first l.span.last (map flown_of (take l.entry-index l.entries));
  few : l.count ≤ l.entry-index;
}
