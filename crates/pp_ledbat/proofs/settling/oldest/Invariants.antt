use Rattle.std.proofs.Common.{◌≡◌, drop}
use Rattle.pp_traffic.specs.Meter.{oldest}
use Rattle.pp_ledbat.proofs.settling.oldest.Given as goal

abbrev pub invariant-loop-entry : goal.invariant-loop-entry
invariant-loop-entry l = oldest l.range.first l.range.last (drop l.entry-index l.entries) ≡ oldest l.range.first l.range.last l.entries
