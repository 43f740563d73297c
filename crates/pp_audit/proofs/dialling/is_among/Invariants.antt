use Rattle.std.proofs.Common.{◌≡◌, ◌||◌, drop, map}
use Rattle.std.specs.List.{list_any}
use Rattle.pp_terms.specs.format.Traffic.{same_address}
use Rattle.pp_outside.specs.Outside.{address_of}
use Rattle.pp_audit.proofs.dialling.is_among.Given as goal

abbrev pub invariant-loop-other : goal.invariant-loop-other
invariant-loop-other l =
    (l.found || list_any (same_address (address_of l.address)) (map address_of (drop l.other-index l.addresses)))
    ≡ list_any (same_address (address_of l.address)) (map address_of l.addresses)
