use Rattle.std.proofs.Common.{◌≡◌}
use Rattle.pp_traffic.specs.Past as traffic
use Rattle.pp_recorded.specs.Entries.{life_of}
use Rattle.pp_recorded.specs.Offers as terms
use Rattle.pp_recorded.proofs.Pasts.{first}
use Rattle.pp_audit.proofs.offers.has_old_request.Given as goal

abbrev pub invariant-loop-place : goal.invariant-loop-place
invariant-loop-place l = record {
  now_is : l.now ≡ traffic.now (first l.place l.entries);
  found_is : l.found ≡ terms.asked_long l.descriptor (life_of l.life) l.latest (first l.place l.entries);
}
