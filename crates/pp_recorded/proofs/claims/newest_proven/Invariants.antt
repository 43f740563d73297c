use Rattle.std.proofs.Common.{◌≡◌}
use Rattle.pp_promises.specs.ReadStory.{is_read}
use Rattle.pp_tree.specs.Node.{node_of}
use Rattle.pp_recorded.specs.Entries.{life_of}
use Rattle.pp_recorded.specs.Claims.{newest_of, proven_claims}
use Rattle.pp_recorded.proofs.Pasts.{first}
use Rattle.pp_recorded.proofs.claims.newest_proven.Given as goal

abbrev pub invariant-loop-place : goal.invariant-loop-place
invariant-loop-place l = record {
  read_is : l.is_read ≡ is_read l.descriptor (life_of l.life) (first l.place l.entries);
  newest_is : l.newest ≡ newest_of (node_of l.at) (proven_claims l.descriptor (life_of l.life) (first l.place l.entries));
}
