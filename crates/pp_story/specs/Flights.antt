-- A chunk that flies, as the window counts it.
use Rattle.pp_traffic.specs.declared.entries.Entry as flown
use Rattle.pp_story.specs.declared.flight.InFlight.{InFlight}

abbrev pub flown_of : InFlight → flown.Entry
flown_of e = record { chunk = e.chunk; overtaken = e.overtaken; sent_at = e.sent_at }
