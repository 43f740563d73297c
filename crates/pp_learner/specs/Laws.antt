-- A learner stands for what its link carried, by what its calls do.
use Rattle.std.specs.Prelude.{◌≡◌, ◌⊎◌, ℕ, ◌+◌, ◌^◌, ◌<◌, ◌≤◌, true, false, is_some, Option, Some, None, List, [], ◌∷◌, ◌++◌, length, map, replicate}
use Rattle.std.specs.List.{AllByRecursion, list_any}
use Rattle.pp_terms.specs.format.Traffic as traffic
use Rattle.pp_terms.specs.format.Traffic.{Record, Received, GainsRecords, LinkState}
use Rattle.pp_outside.specs.Outside.{address_of}
use Rattle.pp_outside.specs.declared.link.Address.{Address}
use Rattle.pp_outside.specs.declared.link.Event.{Event}
use Rattle.pp_outside.specs.declared.link.Event.TheVariants.{Datagram, Quiet}
use Rattle.pp_targets.specs.declared.target.SwarmName as targets
use Rattle.pp_targets.specs.Learn.{IsLearned}
use Rattle.pp_targets.specs.Names.{name_of}
use Rattle.pp_targets.specs.Target.{SwarmName}
use Rattle.pp_terms.specs.format.Descriptor.{Descriptor, IsDescriptor}
use Rattle.pp_terms.specs.format.Messages.{Message, Data}
use Rattle.pp_traffic.specs.Claims.{claimed}
use Rattle.pp_traffic.specs.Life.{Life, closes, comes_on}
use Rattle.pp_traffic.specs.Past.{now, read}
use Rattle.pp_traffic.specs.Turns.{is_closing}
use Rattle.pp_traffic.specs.Story.{hear}
use Rattle.pp_promises.specs.ReadStory.{is_read, read_story}
use Rattle.pp_learner.specs.Absorbing.{Absorbs, after_refusal}
use Rattle.pp_learner.specs.Standing.{stand_in}
use Rattle.pp_learner.specs.Dials.{undialled}
use Rattle.pp_learner.specs.Flushing.{Closes, Flushes, IsModest}
use Rattle.pp_terms.specs.Count.{HasRisen}
use Rattle.pp_traffic.specs.Plain.{IsPlainNow, IsPlainUpTo}
use Rattle.pp_promises.specs.Asked.{dials}
use Rattle.pp_promises.specs.OwnSide.{is_choked_by_peer}
use Rattle.pp_learner.specs.Following.{AreTallied, StandsFor, last_requested, offered}
use Rattle.pp_learner.specs.Learners.{LearnerState, IsWhole, opened}
use Rattle.pp_learner.specs.Sending.{Scene}

-- with no traffic
abbrev pub OpenStands : Type 0
OpenStands = (name : targets.SwarmName) (seed : List ℕ) (dial : List Address)
    → StandsFor (opened name seed dial) [] × AreTallied 0 (opened name seed dial).counts []

-- the record of an event
abbrev pub came : Event → List ℕ → Record
came (Datagram sender len at) bytes = Received at (address_of sender) bytes
came (Quiet at) bytes = traffic.Quiet at

-- an event by which no size was learned
abbrev pub AbsorbStands : Type 0
AbsorbStands = (event : Event) (bytes : List ℕ) (old new : LearnerState) (past : List Record) → IsWhole old
    → Absorbs event bytes None old new → StandsFor old past → StandsFor new (came event bytes ∷ past)

-- any event, and a wait that was refused
abbrev pub EventsTally : Type 0
EventsTally = (event : Event) (bytes : List ℕ) (answer : Option Descriptor) (old new : LearnerState) (refused : ℕ) (past : List Record)
    → Absorbs event bytes answer old new → AreTallied refused old.counts past → AreTallied refused new.counts (came event bytes ∷ past)

abbrev pub RefusalTallies : Type 0
RefusalTallies = (p : LearnerState) (refused : ℕ) (past : List Record) → AreTallied refused p.counts past
    → AreTallied (refused + 1) (after_refusal p).counts past

-- The link gained some records, and the learner stands for the traffic with them, and so do its counts.
pub record StandsOn (old new : Scene) (past : List Record) : Type 0 where
  pub added : List Record
  pub gained : GainsRecords old.link.traffic added new.link.traffic
  pub stands : StandsFor new.parts (added ++ past)
  pub tallies : (refused : ℕ) → AreTallied refused old.parts.counts past → AreTallied refused new.parts.counts (added ++ past)

-- A datagram came on a channel that this peer dialled, and is read there. A DATA in it, with nothing before that closes the channel, is the
-- last chunk of the descriptor's content, as the latest of the last 128 claims prove that were read there before it.
pub record IsLearnedFrom (name : SwarmName) (r : Record) (past : List Record) (e : Descriptor) : Type 0 where
  pub life : Life
  pub dialled : life.is_dialled ≡ true
  pub comes : comes_on (stand_in name) life r ≡ true
  pub reads : is_read (stand_in name) life (r ∷ past) ≡ true
  pub front : List Message
  pub chunk : ℕ
  pub sent_at : ℕ
  pub bytes : List ℕ
  pub rest : List Message
  pub messages : (read (stand_in name) r).messages.read ≡ front ++ Data chunk sent_at bytes ∷ rest
  pub open_still : closes front ≡ false
  pub few : chunk < 2 ^ 20
  pub valid : IsDescriptor e
  pub learned : IsLearned name (claimed (2 ^ 20) (hear (now (r ∷ past)) front (read_story (stand_in name) life past))) chunk bytes e

-- an event by which a size was learned
abbrev pub LearnsFrom : Type 0
LearnsFrom = (event : Event) (bytes : List ℕ) (e : Descriptor) (old new : LearnerState) (past : List Record)
    → Absorbs event bytes (Some e) old new → StandsFor old past → IsLearnedFrom (name_of old.name) (came event bytes) past e

-- On each plain channel that this peer dialled, whose other peer doesn't choke and has offered a chunk below 2 ^ 20, a REQUEST was sent.
abbrev pub AllAsked : Descriptor → List Record → Type 0
AllAsked d past = (life : Life) → life.is_dialled ≡ true → IsPlainNow d life past → is_choked_by_peer (read_story d life past) ≡ false
    → (chunk : ℕ) → offered (read_story d life past) ≡ Some chunk → is_some (last_requested (read_story d life past)) ≡ true

-- ---- what a turn comes to

-- a datagram was sent, whose messages are handshakes and REQUESTs alone
abbrev pub Speaks : Descriptor → Record → Type 0
Speaks d r = (moment : ℕ) × IsModest d moment r

-- No channel is there, and each of these addresses may be dialled at once.
pub record IsIdle (dial : List Address) (p : LearnerState) : Type 0 where
  pub free : p.lives.channels ≡ replicate 64 None
  pub all : p.dials ≡ map undialled dial

-- a handshake for channel 0 was sent to each of these addresses
abbrev pub AreDialled : Descriptor → List Address → List Record → Type 0
AreDialled d dial added = AllByRecursion (λ a. list_any (dials d (address_of a)) added ≡ true) dial

-- Calls of the link other than sendings were not made.
pub record SendsAlone (old new : LinkState) : Type 0 where
  pub nexts : new.nexts ≡ old.nexts
  pub bound : new.bound ≡ old.bound
  pub later : old.faults ≤ new.faults

-- What was due in a turn was sent: the learner stands for it, and what it owed is done, unless the link refused something.
pub record EndsTurn (old new : Scene) (past : List Record) : Type 0 where
  pub on : StandsOn old new past
  pub whole : IsWhole new.parts
  pub name : new.parts.name ≡ old.parts.name
  pub speaks : AllByRecursion (Speaks (stand_in (name_of new.parts.name))) on.added
  pub alone : SendsAlone old.link new.link
  pub asks : HasRisen old.link.faults new.link.faults ⊎ AllAsked (stand_in (name_of new.parts.name)) (on.added ++ past)
  pub dials : (dial : List Address) → length dial ≤ 16 → IsIdle dial old.parts
      → HasRisen old.link.faults new.link.faults ⊎ AreDialled (stand_in (name_of new.parts.name)) dial on.added

abbrev pub FlushEnds : Type 0
FlushEnds = (moment : ℕ) (old new : Scene) (past : List Record) → IsWhole old.parts → Flushes moment old new → StandsFor old.parts past
    → EndsTurn old new past

-- The channels were closed: nothing went but closing handshakes.
pub record PartsAll (old new : Scene) : Type 0 where
  pub added : List Record
  pub gained : GainsRecords old.link.traffic added new.link.traffic
  pub tallies : (refused : ℕ) (past : List Record) → AreTallied refused old.parts.counts past
      → AreTallied refused new.parts.counts (added ++ past)
  pub closing : AllByRecursion (λ r. is_closing (stand_in (name_of old.parts.name)) r ≡ true) added
  pub speaks : AllByRecursion (Speaks (stand_in (name_of old.parts.name))) added
  pub name : new.parts.name ≡ old.parts.name
  pub alone : SendsAlone old.link new.link

abbrev pub CloseParts : Type 0
CloseParts = (moment : ℕ) (old new : Scene) → IsWhole old.parts → Closes moment old new → PartsAll old new

-- ---- what an event leaves

-- the name stays, and a whole learner stays whole
abbrev pub AbsorbNames : Type 0
AbsorbNames = (event : Event) (bytes : List ℕ) (answer : Option Descriptor) (old new : LearnerState) → Absorbs event bytes answer old new
    → (new.name ≡ old.name) × (IsWhole old → IsWhole new)

-- before the first turn ends there is no channel on which something could be learned
abbrev pub AbsorbIdles : Type 0
AbsorbIdles = (event : Event) (bytes : List ℕ) (answer : Option Descriptor) (dial : List Address) (old new : LearnerState)
    → Absorbs event bytes answer old new → IsIdle dial old → IsIdle dial new × (answer ≡ None)

-- a wait that was refused changes nothing but counts
abbrev pub RefusalStands : Type 0
RefusalStands = (p : LearnerState) (past : List Record) → StandsFor p past → StandsFor (after_refusal p) past

-- A DATA came on a plain channel that this peer dialled, with nothing before it in its datagram that closes the channel. It is the last
-- chunk of the descriptor's content, as the latest of the last 128 claims prove that were read there before it.
pub record TellsPlainly (name : SwarmName) (r : Record) (past : List Record) (e : Descriptor) : Type 0 where
  pub life : Life
  pub dialled : life.is_dialled ≡ true
  pub plain : IsPlainUpTo (stand_in name) life past r
  pub comes : comes_on (stand_in name) life r ≡ true
  pub front : List Message
  pub chunk : ℕ
  pub sent_at : ℕ
  pub bytes : List ℕ
  pub rest : List Message
  pub messages : (read (stand_in name) r).messages.read ≡ front ++ Data chunk sent_at bytes ∷ rest
  pub open_still : closes front ≡ false
  pub few : chunk < 2 ^ 20
  pub valid : IsDescriptor e
  pub learned : IsLearned name (claimed (2 ^ 20) (hear (now (r ∷ past)) front (read_story (stand_in name) life past))) chunk bytes e

-- where no size was learned, none was told plainly
abbrev pub AbsorbMisses : Type 0
AbsorbMisses = (event : Event) (bytes : List ℕ) (old new : LearnerState) (past : List Record) → IsWhole old
    → Absorbs event bytes None old new → StandsFor old past
    → (e : Descriptor) → TellsPlainly (name_of old.name) (came event bytes) past e → ⊥
