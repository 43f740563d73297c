use Rattle.std.proofs.Common.{◌≡◌}
use Rattle.pp_traffic.specs.Past.{now, now_at}
use Rattle.pp_traffic.specs.Plain.{heard_at, is_timely}
use Rattle.pp_recorded.specs.Entries.{life_of}
use Rattle.pp_recorded.proofs.Pasts.{first}
use Rattle.pp_recorded.proofs.timing.is_timely.Given as goal

abbrev pub invariant-loop-place : goal.invariant-loop-place
invariant-loop-place l = record {
  now_is : l.now ≡ now (first l.place l.entries);
  opened_is : l.opened ≡ now_at l.life.opening (first l.place l.entries);
  heard_is : l.heard ≡ heard_at l.descriptor (life_of l.life) (first l.place l.entries);
  timely_is : l.timely ≡ is_timely l.descriptor (life_of l.life) (first l.place l.entries);
}
