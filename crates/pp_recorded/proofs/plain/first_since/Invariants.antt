use Rattle.std.proofs.Common.{◌≡◌}
use Rattle.pp_traffic.specs.Past.{some_since}
use Rattle.pp_traffic.specs.Plain.{first_since}
use Rattle.pp_recorded.specs.Entries.{life_of}
use Rattle.pp_recorded.specs.Tests.{test_of}
use Rattle.pp_recorded.proofs.Pasts.{first}
use Rattle.pp_recorded.proofs.plain.first_since.Given as goal

abbrev pub invariant-loop-place : goal.invariant-loop-place
invariant-loop-place l = record {
  met_is : l.met ≡ some_since (test_of l.which l.descriptor (life_of l.life)) l.from (first l.place l.entries);
  first_is : l.first ≡ first_since (test_of l.which l.descriptor (life_of l.life)) (test_of l.kind l.descriptor (life_of l.life)) l.from (first l.place l.entries);
}
