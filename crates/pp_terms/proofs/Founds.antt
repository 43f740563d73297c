-- What an opening finds in an image, and what the image holds.
use Rattle.std.proofs.Common.{◌≡◌, ℕ, ◌<◌, ◌==◌, Bool, true, false, Option, Some, None, List, length, refl, sym, ◌∙◌, ap}
use Rattle.std.specs.Prelude.{◌&&◌, is_some}
use Rattle.std.proofs.lemmas.Bool.{and_parts, and_from}
use Rattle.sha2.specs.Sha256.{sha256}
use Rattle.pp_terms.specs.tree.Content.{chunk_length}
use Rattle.pp_terms.specs.tree.Book.{has_peaks}
use Rattle.pp_terms.specs.format.Descriptor.{Descriptor, chunks_of}
use Rattle.pp_terms.specs.disk.Store.{chunk_place, HasHeader}
use Rattle.pp_terms.specs.disk.Image.{slice, known, matches, holds, is_open, is_found}
use Rattle.pp_terms.specs.disk.Sound.{IsSound}

-- a digest that is matched is there
pub matched_some : (kept : Option (List ℕ)) (digest : List ℕ) → matches kept digest ≡ true → is_some kept ≡ true
matched_some None digest is = is
matched_some (Some x) digest is = refl

-- an image that holds a chunk has its leaf and all peaks
pub held_known : (d : Descriptor) (image : List ℕ) (i : ℕ) → holds d image i ≡ true
    → (has_peaks (known d image) (chunks_of d) ≡ true) × (is_some (known d image 0 i) ≡ true)
held_known d image i held =
    let bytes = slice image (chunk_place d.chunk i) (chunk_length d.size d.chunk i) in
    let long : Bool = length bytes == chunk_length d.size d.chunk i in
    let first = and_parts (has_peaks (known d image) (chunks_of d) && long) (matches (known d image 0 i) (sha256 bytes)) held in
    let second = and_parts (has_peaks (known d image) (chunks_of d)) long first.0 in
    (second.0, matched_some (known d image 0 i) (sha256 bytes) first.1)

-- a chunk that is open and held is found
pub held_found : (d : Descriptor) (image : List ℕ) (i : ℕ) → is_open d image i ≡ true → holds d image i ≡ true → is_found d image i ≡ true
held_found d image i opened held =
    let parts = held_known d image i held in
    and_from (is_open d image i && has_peaks (known d image) (chunks_of d)) (is_some (known d image 0 i))
    (and_from (is_open d image i) (has_peaks (known d image) (chunks_of d)) opened parts.0) parts.1

-- a chunk that is found is open, and the leaf and all peaks are known
pub found_parts : (d : Descriptor) (image : List ℕ) (i : ℕ) → is_found d image i ≡ true
    → (is_open d image i ≡ true) × (has_peaks (known d image) (chunks_of d) ≡ true) × (is_some (known d image 0 i) ≡ true)
found_parts d image i found =
    let first = and_parts (is_open d image i && has_peaks (known d image) (chunks_of d)) (is_some (known d image 0 i)) found in
    let second = and_parts (is_open d image i) (has_peaks (known d image) (chunks_of d)) first.0 in
    (second.0, second.1, first.1)

-- What is found in a sound image is held behind an open gate.
pub found_held : (d : Descriptor) (image : List ℕ) (i : ℕ) → i < chunks_of d → HasHeader d image → IsSound d image
    → is_found d image i ≡ (is_open d image i && holds d image i)
found_held d image i within begins sound = by_gate (is_open d image i) refl
  where
    by_gate : (b : Bool) → is_open d image i ≡ b → is_found d image i ≡ (is_open d image i && holds d image i)
    by_gate true opened =
        let held = sound.held begins i within opened in
        held_found d image i opened held ∙ sym (and_from (is_open d image i) (holds d image i) opened held)
    by_gate false closed =
        ap (λ (b : Bool). b && has_peaks (known d image) (chunks_of d) && is_some (known d image 0 i)) closed
        ∙ sym (ap (λ (b : Bool). b && holds d image i) closed)
