-- Moves one after another, as a schedule's worlds have them.
use Rattle.std.specs.Prelude.{◌≡◌, ℕ, ◌+◌, ◌*◌, ◌^◌, ◌<◌, List, [], ◌∷◌, ◌++◌, length, map, reverse}
use Rattle.std.specs.List.{AllByRecursion}
use Rattle.pp_world.specs.Knowing.{PeersKnowTold}
use Rattle.pp_world.specs.Move.{Move}
use Rattle.pp_world.specs.Schedule.{Schedule, content_of}
use Rattle.pp_terms.specs.format.Descriptor.{Descriptor, IsDescriptor}
use Rattle.pp_world.specs.Outcome.{IsEndOf}
use Rattle.pp_world.specs.Shipment.{DatagramsAreAtomic}
use Rattle.pp_world.specs.Survival.{KeepsAnnounced}
use Rattle.pp_world.specs.World.{PeerState, World}
use Rattle.pp_world.specs.Worlds.{Happened, swarm_of}
use Rattle.pp_actor.specs.Actor.{ActorState, ShowsRemains, part_of}
use Rattle.pp_outcome.specs.Outcome.{end_as}
use Rattle.pp_outcome.specs.declared.outcome.PeerEnd.{PeerEnd}
use Rattle.pp_play.specs.Keeping.{KeepAll}
use Rattle.pp_play.specs.Stage.{ShowActors, StageState, ShowsStage}

-- These moves of a schedule, the newest of which stands first, made a world which the peers are. In each world so far each book has
-- what was told, and between each and the next shipments were stored.
pub record HasPlayed (s : Schedule) (most : ℕ) (done : List Move) (stage : StageState) : Type 0 where
  pub last : World
  pub before : List World
  pub happened : Happened s done (last ∷ before)
  pub knows : AllByRecursion (PeersKnowTold (swarm_of s)) (last ∷ before)
  pub datagrams : DatagramsAreAtomic (swarm_of s) (content_of s) (last ∷ before)
  pub shows : ShowsStage most stage last

-- These moves, the oldest first, were made one after another, whatever schedule they are of and whatever was done before.
pub record PlaysAs (moves : List Move) (old new : StageState) : Type 0 where
  pub descriptor : new.descriptor ≡ old.descriptor
  pub count : length new.actors ≡ length old.actors
  pub parts : map part_of new.actors ≡ map part_of old.actors
  pub plays : (s : Schedule) (most : ℕ) (done : List Move) → IsDescriptor (swarm_of s) → swarm_of s ≡ old.descriptor
      → most + 4 * length moves < 2 ^ 64 → HasPlayed s most done old → HasPlayed s (most + 4 * length moves) (reverse moves ++ done) new

-- ---- the end

-- The peers at the end are those of a world, each with its devices and its numbers, and what each announced lasts.
abbrev pub AreEnds : Descriptor → List PeerEnd → List PeerState → Type 0
AreEnds d [] [] = Unit {0}
AreEnds d [] (x ∷ xs) = ⊥
AreEnds d (end ∷ ends) [] = ⊥
AreEnds d (end ∷ ends) (x ∷ xs) = ShowsRemains end.remains x × IsEndOf d (end_as x end) × KeepsAnnounced d x × AreEnds d ends xs

-- This holds of each world whose peers the actors were, and each session kept the promise of a run.
abbrev pub EndAs : Descriptor → List ActorState → List PeerEnd → Type 0
EndAs d actors ends = (most : ℕ) (peers : List PeerState) → ShowActors d most actors peers
    → AreEnds d ends peers × KeepAll d (map part_of actors) peers
