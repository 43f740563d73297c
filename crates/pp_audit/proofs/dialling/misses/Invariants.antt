use Rattle.std.proofs.Common.{◌≡◌, ◌≤◌, ◌+◌, length, map}
use Rattle.pp_outside.specs.Outside.{address_of}
use Rattle.pp_recorded.specs.Entries.{past}
use Rattle.pp_audit.specs.Dials.{misses}
use Rattle.pp_audit.proofs.dialling.misses.Given as goal

abbrev pub invariant-addresses : goal.invariant-addresses
invariant-addresses l = record {
  few : l.count + length l.rest ≤ length l.addresses;
  same : l.count + length (misses l.descriptor (past l.entries) (map address_of l.rest)) ≡ length (misses l.descriptor (past l.entries) (map address_of l.addresses));
}

abbrev pub decreases-addresses : goal.decreases-addresses
decreases-addresses l = length l.rest
