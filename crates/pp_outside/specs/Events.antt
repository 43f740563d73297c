-- The events of a link in memory, as what is still to be handed out.
use Rattle.std.specs.Prelude.{◌≤◌, length, drop, map, All}
use Rattle.pp_terms.specs.format.Traffic.{Record}
use Rattle.pp_outside.specs.Outside.{record_of}
use Rattle.pp_outside.specs.Arrivals.{Arrivals, IsEvent}
use Rattle.pp_outside.specs.declared.events.Coming.{Coming}
use Rattle.pp_outside.specs.declared.events.Events.TheInside.{Inside}

abbrev pub arrival_of : Coming → Record
arrival_of coming = record_of coming.event coming.bytes.items

abbrev pub arrivals_of : Inside → Arrivals
arrivals_of a = record { coming = map arrival_of (drop a.handed a.coming.items); last = a.last }

abbrev pub HoldsEvent : Coming → Type 0
HoldsEvent coming = IsEvent coming.event coming.bytes.items

pub record AreEvents (a : Inside) : Type 0 where
  pub each : All HoldsEvent a.coming.items
  pub handed_within : a.handed ≤ length a.coming.items
