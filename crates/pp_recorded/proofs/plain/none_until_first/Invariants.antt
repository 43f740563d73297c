use Rattle.std.proofs.Common.{◌≡◌}
use Rattle.pp_traffic.specs.Past.{some_since}
use Rattle.pp_traffic.specs.Plain.{none_until_first}
use Rattle.pp_recorded.specs.Entries.{life_of}
use Rattle.pp_recorded.specs.Tests.{test_of}
use Rattle.pp_recorded.proofs.Pasts.{first}
use Rattle.pp_recorded.proofs.plain.none_until_first.Given as goal

abbrev pub invariant-loop-place : goal.invariant-loop-place
invariant-loop-place l = record {
  met_is : l.met ≡ some_since (test_of l.which l.descriptor (life_of l.life)) l.from (first l.place l.entries);
  none_is : l.none ≡ none_until_first (test_of l.which l.descriptor (life_of l.life)) (test_of l.kind l.descriptor (life_of l.life)) l.from (first l.place l.entries);
}
