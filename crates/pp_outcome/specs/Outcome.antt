-- A peer at the end of a replay, as its end in a world.
use Rattle.std.specs.Prelude.{◌≡◌, length}
use Rattle.pp_terms.specs.format.Descriptor.{Descriptor}
use Rattle.pp_world.specs.Outcome as terms
use Rattle.pp_world.specs.Outcome.{IsEndOf}
use Rattle.pp_world.specs.World.{PeerState}
use Rattle.pp_actor.specs.Actor.{ShowsRemains}
use Rattle.pp_actor.specs.declared.life.Remains.{Remains}
use Rattle.pp_outcome.specs.declared.outcome.PeerEnd.{PeerEnd}

-- the end of a peer, as it is seen
abbrev pub end_as : PeerState → PeerEnd → terms.PeerEnd
end_as x end = record {
  state = x;
  lives = length end.remains.lives.items;
  announced = end.announced;
  held = end.held;
}

-- The end keeps what is left of the peer, and its numbers are those of each peer of a world of which that is left.
pub record EndsAs (d : Descriptor) (remains : Remains) (end : PeerEnd) : Type 0 where
  pub kept : end.remains ≡ remains
  pub numbers : (x : PeerState) → ShowsRemains remains x → IsEndOf d (end_as x end)
