use Rattle.std.proofs.Common.{◌≡◌, ◌≤◌, take}
use Rattle.pp_traffic.specs.Meter.{hits}
use Rattle.pp_ledbat.proofs.settling.hits.Given as goal

abbrev pub invariant-loop-entry : goal.invariant-loop-entry
invariant-loop-entry l = record {
  counted : l.count ≡ hits l.range.first l.range.last (take l.entry-index l.entries);
  few : l.count ≤ l.entry-index;
}
