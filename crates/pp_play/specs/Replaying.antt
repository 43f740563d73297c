-- What a replay answers.
use Rattle.std.specs.Prelude.{◌≡◌, ℕ, List, [], ◌∷◌, map, Result, Ok, Err, IsOk}
use Rattle.std.specs.List.{AllByRecursion}
use Rattle.pp_terms.specs.format.Descriptor.{chunks_of}
use Rattle.pp_world.specs.Agreement.{AllBooksAgree}
use Rattle.pp_world.specs.Knowing.{PeersKnowTold}
use Rattle.pp_world.specs.Outcome as terms
use Rattle.pp_world.specs.Outcome.{AreRuns, IsEndOf}
use Rattle.pp_world.specs.Schedule.{Schedule, content_of}
use Rattle.pp_world.specs.ScheduleRead.{read_schedule}
use Rattle.pp_world.specs.Shipment.{DatagramsAreAtomic}
use Rattle.pp_world.specs.Survival.{AnnouncedSurvives}
use Rattle.pp_world.specs.World.{World}
use Rattle.pp_world.specs.Worlds.{AreWorlds, swarm_of}
use Rattle.pp_replay.specs.Views.{as_fault}
use Rattle.pp_actor.specs.Actor.{ShowsRemains}
use Rattle.pp_outcome.specs.Outcome.{end_as}
use Rattle.pp_outcome.specs.declared.outcome.PeerEnd.{PeerEnd}
use Rattle.pp_play.specs.Keeping.{KeepsRun}
use Rattle.pp_play.specs.declared.replaying.Outcome.{Outcome}
use Rattle.pp_play.specs.declared.replaying.ReplayFault.{ReplayFault}
use Rattle.pp_play.specs.declared.replaying.ReplayFault.TheVariants as faults

-- The devices that were used are those of the peer, and its numbers are as said.
pub record ShowsEnd (end : PeerEnd) (e : terms.PeerEnd) : Type 0 where
  pub remains : ShowsRemains end.remains e.state
  pub numbers : e ≡ end_as e.state end

abbrev pub ShowEnds : List PeerEnd → List terms.PeerEnd → Type 0
ShowEnds [] [] = Unit {0}
ShowEnds [] (e ∷ es) = ⊥
ShowEnds (end ∷ ends) [] = ⊥
ShowEnds (end ∷ ends) (e ∷ es) = ShowsEnd end e × ShowEnds ends es

-- Peers at the end of worlds of a schedule, with their numbers. Each session of each of them keeps the promise of a run. What any of
-- them announced in any session is held in what its disk reads at the end of each later opening, and stands in each image that a crash
-- at any later moment leaves; and in each world the books have the hashes that were told. Each datagram with a chunk that was asked
-- for, and the hashes that the other peer lacked, is stored in the turn in which it comes. Any two books agree, or clash.
pub record IsEnded (s : Schedule) (peers : List terms.PeerEnd) : Type 0 where
  pub last : World
  pub before : List World
  pub worlds : AreWorlds s (last ∷ before)
  pub same : map (λ e. e.state) peers ≡ last.peers
  pub numbers : AllByRecursion (IsEndOf (swarm_of s)) peers
  pub runs : AreRuns KeepsRun (swarm_of s) s.roles last.peers
  pub survives : AnnouncedSurvives (swarm_of s) last
  pub knows : AllByRecursion (PeersKnowTold (swarm_of s)) (last ∷ before)
  pub datagrams : DatagramsAreAtomic (swarm_of s) (content_of s) (last ∷ before)
  pub books : AllBooksAgree (swarm_of s) last

-- A schedule was played to this outcome.
pub record IsPlayed (s : Schedule) (outcome : Outcome) : Type 0 where
  pub peers : List terms.PeerEnd
  pub ended : IsEnded s peers
  pub show : ShowEnds outcome.ends.items peers
  pub swarm : outcome.descriptor ≡ swarm_of s
  pub chunks : outcome.chunks ≡ chunks_of (swarm_of s)

-- The text is a schedule, and this is its outcome.
pub record IsReplayed (text : List ℕ) (outcome : Outcome) : Type 0 where
  pub schedule : Schedule
  pub read : read_schedule text ≡ Ok schedule
  pub played : IsPlayed schedule outcome

-- When each answer comes.
abbrev pub HasReplayed : List ℕ → Result Outcome ReplayFault → Type 0
HasReplayed text (Ok outcome) = IsReplayed text outcome
HasReplayed text (Err (faults.Schedule fault)) = read_schedule text ≡ Err (as_fault fault)
HasReplayed text (Err faults.Memory) = IsOk (read_schedule text)
