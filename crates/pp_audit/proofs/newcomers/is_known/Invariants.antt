use Rattle.std.proofs.Common.{◌≡◌}
use Rattle.std.specs.List.{list_any}
use Rattle.pp_traffic.specs.Plain.{concerns}
use Rattle.pp_outside.specs.Outside.{address_of}
use Rattle.pp_recorded.proofs.Pasts.{first}
use Rattle.pp_audit.proofs.newcomers.is_known.Given as goal

abbrev pub invariant-loop-entry : goal.invariant-loop-entry
invariant-loop-entry l = l.found ≡ list_any (concerns (address_of l.address)) (first l.entry-index l.entries)
