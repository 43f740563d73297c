-- What the turns come to in which a learner learns the size of its swarm's content.
use Rattle.std.specs.Prelude.{◌≡◌, ℕ, ◌+◌, ◌<◌, ◌≤◌, true, Option, Some, None, List, [], ◌∷◌, ◌++◌}
use Rattle.std.specs.List.{AllByRecursion}
use Rattle.pp_terms.specs.tree.Content.{IsChunkSize}
use Rattle.pp_terms.specs.format.Descriptor.{Descriptor}
use Rattle.pp_terms.specs.format.Traffic.{Record, Received, Quiet, Sent, LinkState, GainsRecords}
use Rattle.pp_traffic.specs.Tallied.{TookTurns}
use Rattle.pp_traffic.specs.Turns.{events, is_closing, AtTurnEndsBut}
use Rattle.pp_promises.specs.Premises.{IsCalm}
use Rattle.pp_outside.specs.declared.link.Address.{Address}
use Rattle.pp_targets.specs.Names.{name_of}
use Rattle.pp_targets.specs.Target.{SwarmName}
use Rattle.pp_learner.specs.Flushing.{ClosesEach}
use Rattle.pp_learner.specs.Following.{AreTallied, StandsFor}
use Rattle.pp_learner.specs.Laws.{AllAsked, AreDialled, IsIdle, IsLearnedFrom, Speaks, TellsPlainly}
use Rattle.pp_learner.specs.Learners.{LearnerState, IsWhole}
use Rattle.pp_learner.specs.Sending.{Scene}
use Rattle.pp_learner.specs.Standing.{stand_in}
use Rattle.pp_sizing.specs.Turning.{Hears}
use Rattle.pp_sizing.specs.declared.sizing.Lesson.{Lesson}

-- a learner with its link
abbrev pub scene : LearnerState → LinkState → Scene
scene parts link = record { parts = parts; link = link }

-- the descriptor that stands for a learner's name
abbrev pub name_in : Scene → Descriptor
name_in s = stand_in (name_of s.parts.name)

-- ---- what is said of records

-- The record came, or was sent with handshakes and REQUESTs alone: no chunk, no HAVE and no ACK.
abbrev pub IsUnserving : Descriptor → Record → Type 0
IsUnserving d (Received at sender bytes) = Unit {0}
IsUnserving d (Quiet at) = Unit {0}
IsUnserving d (Sent moment receiver bytes) = Speaks d (Sent moment receiver bytes)

-- No record has a DATA that tells the size plainly, by what was claimed on its channel before.
abbrev pub TellsNone : SwarmName → List Record → Type 0
TellsNone name [] = Unit {0}
TellsNone name (r ∷ before) = ((e : Descriptor) → TellsPlainly name r before e → ⊥) × TellsNone name before

-- At the end of each turn, the last one included, each channel that may be asked was asked.
abbrev pub AsksAtEnds : Descriptor → List Record → Type 0
AsksAtEnds d turned = AllAsked d turned × AtTurnEndsBut 0 (AllAsked d) turned

-- In the first turn a handshake for channel 0 was sent to each of the addresses.
pub record DialsFirst (d : Descriptor) (dial : List Address) (turned : List Record) : Type 0 where
  pub first : List Record
  pub rest : List Record
  pub split : turned ≡ rest ++ first
  pub one : events first ≤ 1
  pub dialled : AreDialled d dial first

-- ---- turns

-- A learner that had just opened took so many turns, and learned no size in them. While the link refuses nothing, all addresses are
-- dialled in the first turn, and at the end of each turn each channel that may be asked was asked.
pub record HasTurned (taken : ℕ) (dial : List Address) (first last : Scene) : Type 0 where
  pub added : List Record
  pub gained : GainsRecords first.link.traffic added last.link.traffic
  pub took : TookTurns taken first.link last.link added
  pub bound : last.link.bound ≡ first.link.bound
  pub later : first.link.faults ≤ last.link.faults
  pub name : last.parts.name ≡ first.parts.name
  pub whole : IsWhole last.parts
  pub stands : StandsFor last.parts added
  pub tallies : AreTallied took.refused last.parts.counts added
  pub unserving : AllByRecursion (IsUnserving (name_in first)) added
  pub misses : TellsNone (name_of first.parts.name) added
  pub asks : IsCalm first.link.faults last.link.faults → AsksAtEnds (name_in first) added
  pub idle : taken ≡ 0 → IsIdle dial last.parts
  pub dials : 0 < taken → IsCalm first.link.faults last.link.faults → DialsFirst (name_in first) dial added

-- Behind these records the channels were closed: on each one that was proven a closing handshake went, unless the link refused
-- something, and nothing else did. So many turns were begun in all.
pub record HasClosed (taken : ℕ) (turned : List Record) (first mid last : Scene) : Type 0 where
  pub behind : List Record
  pub gained : GainsRecords first.link.traffic (behind ++ turned) last.link.traffic
  pub closing : AllByRecursion (λ r. is_closing (name_in first) r ≡ true) behind
  pub unserving : AllByRecursion (IsUnserving (name_in first)) (behind ++ turned)
  pub took : TookTurns taken first.link last.link (behind ++ turned)
  pub tallies : AreTallied took.refused last.parts.counts (behind ++ turned)
  pub bound : last.link.bound ≡ first.link.bound
  pub later : first.link.faults ≤ last.link.faults
  pub moment : ℕ
  pub each : ClosesEach moment mid last

-- A datagram told the size, in the turn behind some whole ones.
pub record HasLearned (turns : ℕ) (dial : List Address) (first last : Scene) (lesson : Lesson) : Type 0 where
  pub taken : ℕ
  pub some : 0 < taken
  pub left : taken + 1 + lesson.left ≡ turns
  pub mid : Scene
  pub turned : HasTurned taken dial first mid
  pub came : Record
  pub told : IsLearnedFrom (name_of first.parts.name) came turned.added lesson.descriptor
  pub heard : Scene
  pub hears : Hears mid heard (Some lesson.descriptor)
  pub closed : HasClosed (taken + 1) (came ∷ turned.added) first heard last

-- All turns were taken, and none told the size.
pub record HasNotLearned (turns : ℕ) (dial : List Address) (first last : Scene) : Type 0 where
  pub mid : Scene
  pub turned : HasTurned turns dial first mid
  pub closed : HasClosed turns turned.added first mid last

-- What the turns came to.
abbrev pub LearnsTo : ℕ → List Address → Scene → Scene → Option Lesson → Type 0
LearnsTo turns dial first last (Some lesson) = HasLearned turns dial first last lesson
LearnsTo turns dial first last None = HasNotLearned turns dial first last

-- The same of a name with a chunk size, as `Learner::open` demands of each.
abbrev pub LearnsSize : ℕ → List Address → Scene → Scene → Option Lesson → Type 0
LearnsSize turns dial first last result = IsChunkSize first.parts.name.chunk → LearnsTo turns dial first last result
