use Rattle.std.proofs.Common.{◌≡◌, map, drop}
use Rattle.pp_traffic.specs.Meter.{oldest}
use Rattle.pp_story.specs.Flights.{flown_of}
use Rattle.pp_story.proofs.flight.oldest.Given as goal

abbrev pub invariant-loop-entry : goal.invariant-loop-entry
invariant-loop-entry l =
    oldest l.span.first l.span.last (map flown_of (drop l.entry-index l.entries)) ≡ oldest l.span.first l.span.last (map flown_of l.entries)
