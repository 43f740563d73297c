-- The peers of a schedule before its first move.
use Rattle.std.specs.Prelude.{◌≡◌, ℕ, List, map}
use Rattle.pp_terms.specs.disk.Calls.{Calls}
use Rattle.pp_terms.specs.format.Descriptor.{Descriptor}
use Rattle.pp_outside.specs.declared.memory_disk.MemoryDisk.{MemoryDisk}
use Rattle.pp_watch.specs.Shown.{ShowsDisk}
use Rattle.pp_world.specs.Schedule.{Schedule}
use Rattle.pp_world.specs.World.{PeerState, World}
use Rattle.pp_world.specs.Worlds.{AreNew, HasDisk, IsFirst, idle, swarm_of}
use Rattle.pp_replay.specs.Views.{as_role}
use Rattle.pp_replay.specs.declared.types.Role.{Role}
use Rattle.pp_actor.specs.Actor.{ActorState, part_of}
use Rattle.pp_play.specs.Keeping.{HaveRoles}
use Rattle.pp_play.specs.Stage.{ShowActors, ShowsStage, StageState}

-- Such a peer begins with this disk.
pub record BeginsAs (d : Descriptor) (content : List ℕ) (role : Role) (disk : MemoryDisk) : Type 0 where
  pub calls : Calls
  pub has : HasDisk d content (as_role role) calls
  pub shows : ShowsDisk 0 disk (idle calls)

-- Such peers begin as these actors.
pub record BeginAs (d : Descriptor) (content : List ℕ) (roles : List Role) (actors : List ActorState) : Type 0 where
  pub peers : List PeerState
  pub new : AreNew d content (map as_role roles) peers
  pub show : ShowActors d 0 actors peers
  pub told : HaveRoles (map as_role roles) (map part_of actors)

-- The peers are those of the schedule's first world.
pub record IsReadied (s : Schedule) (stage : StageState) : Type 0 where
  pub descriptor : stage.descriptor ≡ swarm_of s
  pub told : HaveRoles s.roles (map part_of stage.actors)
  pub first : World
  pub is_first : IsFirst s first
  pub shows : ShowsStage 0 stage first
