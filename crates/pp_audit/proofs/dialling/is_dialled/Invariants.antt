use Rattle.std.proofs.Common.{◌≡◌}
use Rattle.std.specs.List.{list_any}
use Rattle.pp_promises.specs.Asked.{dials}
use Rattle.pp_outside.specs.Outside.{address_of}
use Rattle.pp_recorded.proofs.Pasts.{first}
use Rattle.pp_audit.proofs.dialling.is_dialled.Given as goal

abbrev pub invariant-loop-entry : goal.invariant-loop-entry
invariant-loop-entry l = l.found ≡ list_any (dials l.descriptor (address_of l.address)) (first l.entry-index l.entries)
