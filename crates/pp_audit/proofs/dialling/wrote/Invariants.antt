use Rattle.std.proofs.Common.{◌≡◌}
use Rattle.std.specs.List.{list_any}
use Rattle.pp_traffic.specs.Past.{comes_from}
use Rattle.pp_outside.specs.Outside.{address_of}
use Rattle.pp_recorded.proofs.Pasts.{first}
use Rattle.pp_audit.proofs.dialling.wrote.Given as goal

abbrev pub invariant-loop-entry : goal.invariant-loop-entry
invariant-loop-entry l = l.found ≡ list_any (comes_from (address_of l.address)) (first l.entry-index l.entries)
