use Rattle.std.proofs.Common.{◌≡◌}
use Rattle.pp_traffic.specs.Past.{some_since}
use Rattle.pp_traffic.specs.Life.{shakes_on, is_closed}
use Rattle.pp_recorded.specs.Entries.{life_of}
use Rattle.pp_recorded.proofs.Pasts.{first}
use Rattle.pp_recorded.proofs.lives.is_closed.Given as goal

abbrev pub invariant-loop-place : goal.invariant-loop-place
invariant-loop-place l = record {
  shaken_is : l.shaken ≡ some_since (shakes_on l.descriptor (life_of l.life)) l.life.opening (first l.place l.entries);
  closed_is : l.closed ≡ is_closed l.descriptor (life_of l.life) (first l.place l.entries);
}
