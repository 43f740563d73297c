use Rattle.std.proofs.Common.{◌≡◌}
use Rattle.pp_traffic.specs.Past as terms
use Rattle.pp_promises.specs.Answered.{wrote_lately}
use Rattle.pp_recorded.specs.Entries.{life_of}
use Rattle.pp_recorded.proofs.Pasts.{first}
use Rattle.pp_recorded.proofs.silence.wrote_lately.Given as goal

abbrev pub invariant-loop-entry : goal.invariant-loop-entry
invariant-loop-entry l = record {
  now_is : l.now ≡ terms.now (first l.entry-index l.entries);
  found_is : l.found ≡ wrote_lately l.descriptor (life_of l.life) l.latest (first l.entry-index l.entries);
}
