-- The peers of a replay, what is on its way to them and the clock, as a world.
use Rattle.std.specs.Prelude.{◌≡◌, ℕ, ◌+◌, ◌^◌, ◌<◌, Bool, false, Option, Some, None, is_some, List, [], ◌∷◌, length, map, slice_get, slice_set}
use Rattle.pp_terms.specs.format.Descriptor.{Descriptor}
use Rattle.pp_terms.specs.format.Traffic.{Record, Received, Quiet, Sent}
use Rattle.pp_world.specs.Change.{Moves}
use Rattle.pp_world.specs.Move.{Move}
use Rattle.pp_world.specs.World.{Queued, PeerState, World}
use Rattle.pp_mail.specs.Mail.{delivered, queue_of}
use Rattle.pp_mail.proofs.Peers.{mail_at}
use Rattle.pp_actor.specs.Actor.{ActorState, ActorTurns, BeginsBy, ShowsActor, part_of}

pub record StageState : Type 0 where
  pub descriptor : Descriptor
  pub clock : ℕ
  pub actors : List ActorState
  pub mail : List (List Queued)

-- There is a queue for each peer.
abbrev pub IsSet : List ActorState → List (List Queued) → Type 0
IsSet actors mail = length mail ≡ length actors

-- ---- a world

-- These actors are the peers of a world of this swarm, each at its number.
abbrev pub ShowActors : Descriptor → ℕ → List ActorState → List PeerState → Type 0
ShowActors d most [] [] = Unit {0}
ShowActors d most [] (x ∷ xs) = ⊥
ShowActors d most (a ∷ actors) [] = ⊥
ShowActors d most (a ∷ actors) (x ∷ xs) = ShowsActor d most a x × ShowActors d most actors xs

-- Of the calls of each disk, and of each link, at most so many were refused.
pub record ShowsStage (most : ℕ) (stage : StageState) (w : World) : Type 0 where
  pub clock : stage.clock ≡ w.clock
  pub actors : ShowActors stage.descriptor most stage.actors w.peers
  pub mail : stage.mail ≡ mail_at w.peers

-- ---- moves

pub record StageMoves (d : Descriptor) (most : ℕ) (w : World) (move : Move) (new : StageState) : Type 0 where
  pub after : World
  pub moves : Moves d move w after
  pub shows : ShowsStage (most + 4) new after

-- The move happened, in each world that the peers were.
pub record MovesAs (move : Move) (old new : StageState) : Type 0 where
  pub descriptor : new.descriptor ≡ old.descriptor
  pub count : length new.actors ≡ length old.actors
  -- what each peer is told stays
  pub parts : map part_of new.actors ≡ map part_of old.actors
  pub moves : (most : ℕ) (w : World) → most + 4 < 2 ^ 64 → ShowsStage most old w → StageMoves old.descriptor most w move new

-- ---- one peer

-- whether an actor runs, if there is one
abbrev pub does_run : Option ActorState → Bool
does_run None = false
does_run (Some a) = is_some a.running

abbrev pub runs_at : ℕ → List ActorState → Bool
runs_at peer actors = does_run (slice_get actors peer)

-- A peer that didn't run and now does has begun its next life.
pub record HasStarted (peer : ℕ) (old new : StageState) : Type 0 where
  pub before : ActorState
  pub after : ActorState
  pub was : slice_get old.actors peer ≡ Some before
  pub is : slice_get new.actors peer ≡ Some after
  pub begins : BeginsBy old.descriptor before after

-- One peer took a turn, and heard what waited first for it.
pub record HasHeard (peer : ℕ) (old new : StageState) : Type 0 where
  pub before : ActorState
  pub after : ActorState
  pub part : part_of after ≡ part_of before
  pub was : slice_get old.actors peer ≡ Some before
  pub is : new ≡ record old { actors = slice_set old.actors peer after }
  pub turns : (most : ℕ) (x : PeerState) → most + 4 < 2 ^ 64 → ShowsActor old.descriptor most before x → queue_of peer old.mail ≡ x.queue
      → ActorTurns old.descriptor old.clock most x after

-- ---- what is sent

-- the mail after one record of a peer's link
abbrev pub mail_with : (sender : ℕ) → Record → List (List Queued) → List (List Queued)
mail_with sender (Received at from bytes) mail = mail
mail_with sender (Quiet at) mail = mail
mail_with sender (Sent moment receiver bytes) mail = delivered sender receiver bytes mail

-- after some records, the newest of which stands first
abbrev pub mail_after : (sender : ℕ) → List Record → List (List Queued) → List (List Queued)
mail_after sender [] mail = mail
mail_after sender (r ∷ before) mail = mail_with sender r (mail_after sender before mail)
