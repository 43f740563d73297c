-- What one turn of a learner does.
use Rattle.std.specs.Prelude.{◌≡◌, ◌⊎◌, ℕ, ◌+◌, ◌≤◌, Option, Some, None, List, [], ◌∷◌}
use Rattle.pp_terms.specs.Count.{HasRisen, capped}
use Rattle.pp_terms.specs.format.Descriptor.{Descriptor}
use Rattle.pp_terms.specs.format.Traffic.{GainsRecords}
use Rattle.pp_outside.specs.Arrivals.{IsEvent}
use Rattle.pp_outside.specs.declared.link.Event.{Event}
use Rattle.pp_learner.specs.Absorbing.{Absorbs, after_refusal}
use Rattle.pp_learner.specs.Flushing.{Flushes}
use Rattle.pp_learner.specs.Laws.{came}
use Rattle.pp_learner.specs.Sending.{Scene}

-- A wait brought an event, which was taken.
pub record Takes (answer : Option Descriptor) (old new : Scene) : Type 0 where
  pub event : Event
  pub bytes : List ℕ
  pub is : IsEvent event bytes
  pub absorbs : Absorbs event bytes answer old.parts new.parts
  pub gained : GainsRecords old.link.traffic (came event bytes ∷ []) new.link.traffic

-- The link refused to wait, which was counted.
pub record IsRefused (answer : Option Descriptor) (old new : Scene) : Type 0 where
  pub none : answer ≡ None
  pub counted : new.parts ≡ after_refusal old.parts
  pub traffic : new.link.traffic ≡ old.link.traffic
  pub risen : HasRisen old.link.faults new.link.faults

-- One wait, and what it came to.
pub record Hears (old new : Scene) (answer : Option Descriptor) : Type 0 where
  pub nexts : new.link.nexts ≡ capped (old.link.nexts + 1)
  pub bound : new.link.bound ≡ old.link.bound
  pub later : old.link.faults ≤ new.link.faults
  pub does : Takes answer old new ⊎ IsRefused answer old new

-- What is due is sent, unless a size was told.
abbrev pub TakesTurn : (moment : ℕ) → Scene → Scene → Option Descriptor → Type 0
TakesTurn moment old new None = (mid : Scene) × Hears old mid None × Flushes moment mid new
TakesTurn moment old new (Some e) = Hears old new (Some e)
