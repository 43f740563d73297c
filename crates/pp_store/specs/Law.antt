-- Laws of stores, which a function of this crate states.
use Rattle.std.specs.Prelude.{ℕ, ◌<◌, List}
use Rattle.pp_terms.specs.format.Descriptor.{chunks_of}
use Rattle.pp_terms.specs.disk.Store.{IsStoreOf}
use Rattle.pp_terms.specs.disk.Image.{StandsIn}
use Rattle.pp_terms.specs.disk.Sound.{IsSound}
use Rattle.pp_store.specs.Imported.{imported}
use Rattle.pp_store.specs.Growing.{IsContent}

-- In a content's whole store each of its chunks stands: it is held by an image that is read from the root down.
abbrev pub StoresHoldAll : Type 0
StoresHoldAll = (chunk : ℕ) (content image : List ℕ) → IsContent chunk content → IsStoreOf (imported content chunk) content image
    → (i : ℕ) → i < chunks_of (imported content chunk) → StandsIn (imported content chunk) image i

-- Such a store is a sound image.
abbrev pub StoresAreSound : Type 0
StoresAreSound = (chunk : ℕ) (content image : List ℕ) → IsContent chunk content → IsStoreOf (imported content chunk) content image
    → IsSound (imported content chunk) image
