-- A disk over a file: what is known of it, and its meaning.
use Rattle.std.specs.Prelude.{◌≡◌, ◌⊎◌, ℕ, ◌<◌, Bool, true, false, not, ◌&&◌, List, [], length, IsTrue}
use Rattle.std.proofs.Common.{lit≤, refl}
use Rattle.pp_terms.specs.disk.Disk.{Write, DiskState, IsImage, fresh}
use Rattle.pp_adapt.specs.Counts.{raised}
use Rattle.pp_adapt.specs.Gathered.{IsFree, IsGatheredOver}

-- Whether a store is attached; whether a sync of it or a gathered write was refused since it was; whether the system
-- gave it for reading alone; the writes that are gathered, and aren't in the file yet; and how often a call was
-- refused: all calls, and those but `read_at`.
pub record FileState : Type 0 where
  pub is_attached : Bool
  pub is_lost : Bool
  pub is_sealed : Bool
  pub gathered : List Write
  pub faults : ℕ
  pub hard : ℕ

-- before the first attachment
abbrev pub unattached : FileState
unattached = record { is_attached = false; is_lost = false; is_sealed = false; gathered = []; faults = 0; hard = 0 }

-- The file has a store, and no sync of it or gathered write was refused.
abbrev pub IsLive : FileState → Type 0
IsLive s = IsTrue (s.is_attached && not s.is_lost)

-- after a refused call, and after a refused reading
abbrev pub with_refusal : FileState → FileState
with_refusal s = record s { faults = raised s.faults; hard = raised s.hard }

abbrev pub with_refused_reading : FileState → FileState
with_refused_reading s = record s { faults = raised s.faults }

-- after the system refused a sync or a gathered write
abbrev pub lost : FileState → FileState
lost s = record s { is_lost = true }

-- All that was gathered went out to the file, as nothing of a lost store does.
pub record IsWrittenOut (old new : FileState) : Type 0 where
  pub live : IsTrue old.is_lost → old.gathered ≡ []
  pub gone : new ≡ record old { gathered = [] }

-- What a refused call leaves, but for the counts: all as it was; or what was gathered went out; or the system refused
-- a part of it, and the store is lost.
abbrev pub IsLeft : FileState → FileState → Type 0
IsLeft old new = (new ≡ old) ⊎ IsWrittenOut old new ⊎ ((0 < length old.gathered) × (new ≡ lost old))

-- What is gathered after a write: its bytes, over the others or alone, as the others went out. Or it is in the file
-- itself, and nothing is gathered there that would go over it: nothing that was, or nothing at all.
abbrev pub HasGathered : List Write → ℕ → List ℕ → List Write → Type 0
HasGathered old place bytes new =
    IsGatheredOver old place bytes new
    ⊎ IsGatheredOver [] place bytes new
    ⊎ (IsFree old place (length bytes) × (new ≡ old))
    ⊎ (new ≡ [])

-- After a reading nothing is gathered in its range: nothing was, or all went out.
pub record IsSeen (old : FileState) (place size : ℕ) (new : FileState) : Type 0 where
  pub left : (new ≡ old) ⊎ IsWrittenOut old new
  pub free : IsFree new.gathered place size

-- the meaning of a disk that tells nothing
abbrev pub silent_disk : FileState → DiskState
silent_disk s = record { tells = false; honest = false; history = fresh []; faults = s.faults; hard = s.hard }

-- What a silent disk's reads give, nothing, is an image of it.
pub silent_is_image : IsImage (fresh []).epoch (fresh []).reads
silent_is_image = record { no_shorter = lit≤ tt; no_longer = lit≤ tt; stays = λ k within free. refl }
