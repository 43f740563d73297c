-- What is known in a file to which the slots of an old one were copied is what is known in the old one.
use Rattle.std.proofs.Common.{◌≡◌, ⊎_elim, ℕ, zero, suc, ◌+◌, ◌-◌, ◌*◌, ◌/◌, ◌^◌, ◌<◌, ◌≤◌, ◌==◌, nat_le, Bool, true, false, cond, Option, Some, None, List, length, get_or, take, drop, replicate, refl, sym, ◌∙◌, ap, arith}
use Rattle.std.specs.Prelude.{◌&&◌}
use Rattle.std.proofs.lemmas.Bool.{cases_lt, eqb-true}
use Rattle.std.proofs.lemmas.Grind.{same_number_lists}
use Rattle.std.proofs.lemmas.List.{places, length-take, length-drop, length-append, length-replicate, get_or-take, get_or-drop, get_or-replicate, get_or-append_right, get_or_append_left, get_or_past}
use Rattle.std.proofs.lemmas.Nat.{pow-add, pow_pos}
use Rattle.sha2.specs.Sha256.{sha256}
use Rattle.pp_terms.specs.tree.Content.{chunk_length}
use Rattle.pp_terms.specs.tree.Book.{has_peaks}
use Rattle.pp_terms.specs.format.Descriptor.{Descriptor, chunks_of, height_of, IsDescriptor}
use Rattle.pp_terms.specs.disk.Store.{chunk_place, pair_place, pair_slot, slot_size, file_size}
use Rattle.pp_terms.specs.disk.Image.{slice, child, known_below, known, holds, matches}
use Rattle.pp_store.specs.Old.{old_slot_size, old_chunk_place, old_pair_place, old_size, old_known_below, old_known, old_holds, old_file}
use Rattle.pp_store.specs.Upgrade.{IsCopied}
use Rattle.pp_store.proofs.Pieces.{slot_order}
use Rattle.pp_store.proofs.Surviving.{covers_all}

-- ---- the bytes

pub length-old_file : (d : Descriptor) (bytes : List ℕ) → length (old_file d bytes) ≡ old_size d
length-old_file d bytes =
    length-append (take (old_size d) bytes) (replicate (old_size d - length bytes) 0)
    ∙ omega (arith, length-take (old_size d) bytes, length-replicate {A = ℕ} (old_size d - length bytes) 0)

pub old_byte : (d : Descriptor) (bytes : List ℕ) (k : ℕ) → k < old_size d → get_or (old_file d bytes) k 0 ≡ get_or bytes k 0
old_byte d bytes k inside = ⊎_elim
    (λ here.
    get_or_append_left (take (old_size d) bytes) (replicate (old_size d - length bytes) 0) 0 k (omega (arith, here, inside, length-take (old_size d) bytes))
    ∙ get_or-take (old_size d) bytes k 0 inside)
    (λ past.
    let long : length (take (old_size d) bytes) ≡ length bytes = omega (arith, past, inside, length-take (old_size d) bytes) in
    get_or-append_right (take (old_size d) bytes) (replicate (old_size d - length bytes) 0) (length bytes) k 0 long past
    ∙ get_or-replicate (old_size d - length bytes) (k - length bytes) 0 0 (omega (arith, past, inside))
    ∙ sym (get_or_past bytes k 0 past))
    (cases_lt k (length bytes))

-- Slot by slot a file has the chunk and the pair of another one.
pub record IsSlotwise (d : Descriptor) (reads file : List ℕ) : Type 0 where
  pub long : length reads ≡ file_size d
  pub old_long : length file ≡ old_size d
  pub same : (i r : ℕ) → i < 2 ^ height_of d → r < old_slot_size d.chunk
      → get_or reads (chunk_place d.chunk i + r) 0 ≡ get_or file (old_chunk_place d.chunk i + r) 0

pub copied_slotwise : (d : Descriptor) (bytes reads : List ℕ) → length reads ≡ file_size d → IsCopied d (Some (drop 64 bytes)) reads
    → IsSlotwise d reads (old_file d bytes)
copied_slotwise d bytes reads long copied = record {
  long = long;
  old_long = length-old_file d bytes;
  same = λ i r lt low.
      let le = slot_order (old_slot_size d.chunk) i (2 ^ height_of d) lt in
      let at : 64 + (i * old_slot_size d.chunk + r) ≡ old_chunk_place d.chunk i + r = omega arith in
      copied.bytes (drop 64 bytes) refl i r lt low
      ∙ get_or-drop 64 bytes (i * old_slot_size d.chunk + r) 0
      ∙ ap (λ (k : ℕ). get_or bytes k 0) at
      ∙ sym (old_byte d bytes (old_chunk_place d.chunk i + r) (omega (arith, le, low)));
}

slices_same : (a b : List ℕ) (p q n : ℕ) → p + n ≤ length a → q + n ≤ length b
    → ((k : ℕ) → k < n → get_or a (p + k) 0 ≡ get_or b (q + k) 0) → slice a p n ≡ slice b q n
slices_same a b p q n inside other each =
    let one : length (slice a p n) ≡ n = length-take n (drop p a) ∙ omega (arith, length-drop p a, inside) in
    let two : length (slice b q n) ≡ n = length-take n (drop q b) ∙ omega (arith, length-drop q b, other) in
    same_number_lists (slice a p n) (slice b q n) (omega (arith, one, two)) (λ k lt.
    let low : k < n = omega (arith, one, lt) in
    byte a p k low ∙ each k low ∙ sym (byte b q k low))
  where
    byte : (bytes : List ℕ) (at k : ℕ) → k < n → get_or (take n (drop at bytes)) k 0 ≡ get_or bytes (at + k) 0
    byte bytes at k lt = grind (arith, places)

-- ---- the nodes

inside_tree : (d : Descriptor) (file : List ℕ) (n j : ℕ) (x : List ℕ) → old_known_below d file n j ≡ Some x → j < 2 ^ n
inside_tree d file zero j x is = by (j == 0) refl is
  where
    by : (b : Bool) → (j == 0) ≡ b → cond b (Some d.root) None ≡ Some x → j < 2 ^ zero
    by true at e = let none = eqb-true j 0 at in omega (arith, none)
    by false at e = absurd cc
inside_tree d file (suc n) j x is = by (λ y at. inside_tree d file n (j / 2) y at) (old_known_below d file n (j / 2)) refl is
  where
    by : ((y : List ℕ) → old_known_below d file n (j / 2) ≡ Some y → j / 2 < 2 ^ n)
        → (o : Option (List ℕ)) → old_known_below d file n (j / 2) ≡ o
        → child (slice file (old_pair_place d.chunk (height_of d - suc n) (j / 2)) 64) j o ≡ Some x → j < 2 ^ suc n
    by up None at e = absurd cc
    by up (Some y) at e = let lt = up y at in omega (arith, lt)

module _ (d : Descriptor) (reads file : List ℕ) (is : IsSlotwise d reads file) where
  pair_low : (n j : ℕ) → suc n ≤ height_of d → j < 2 ^ n → pair_slot (height_of d - suc n) j < 2 ^ height_of d
  pair_low n j le lt =
      let k = height_of d - suc n in
      let at : n + suc k ≡ height_of d = omega (arith, le) in
      let whole : 2 ^ height_of d ≡ 2 ^ n * 2 ^ suc k = ap (λ (m : ℕ). 2 ^ m) (sym at) ∙ pow-add 2 n (suc k) in
      let up = slot_order (2 ^ suc k) j (2 ^ n) lt in
      let half : 2 ^ suc k ≡ 2 * 2 ^ k = omega arith in
      let some : 0 < 2 ^ k = pow_pos k in
      omega (arith, whole, up, half, some)

  pair_same : (k j : ℕ) → pair_slot k j < 2 ^ height_of d → slice reads (pair_place d.chunk k j) 64 ≡ slice file (old_pair_place d.chunk k j) 64
  pair_same k j lt =
      let s = pair_slot k j in
      let le = slot_order (slot_size d.chunk) s (2 ^ height_of d) lt in
      let old_le = slot_order (old_slot_size d.chunk) s (2 ^ height_of d) lt in
      slices_same reads file (pair_place d.chunk k j) (old_pair_place d.chunk k j) 64 (omega (arith, le, is.long)) (omega (arith, old_le, is.old_long)) (λ r low.
      let one : chunk_place d.chunk s + (d.chunk + r) ≡ pair_place d.chunk k j + r = omega arith in
      let two : old_chunk_place d.chunk s + (d.chunk + r) ≡ old_pair_place d.chunk k j + r = omega arith in
      ap (λ (p : ℕ). get_or reads p 0) (sym one) ∙ is.same s (d.chunk + r) lt (omega (arith, low)) ∙ ap (λ (p : ℕ). get_or file p 0) two)

  below_same : (n j : ℕ) → n ≤ height_of d → known_below d reads n j ≡ old_known_below d file n j
  below_same zero j le = refl
  below_same (suc n) j le = by (below_same n (j / 2) (omega (arith, le))) (old_known_below d file n (j / 2)) refl
    where
      k : ℕ
      k = height_of d - suc n

      by : known_below d reads n (j / 2) ≡ old_known_below d file n (j / 2)
          → (o : Option (List ℕ)) → old_known_below d file n (j / 2) ≡ o
          → child (slice reads (pair_place d.chunk k (j / 2)) 64) j (known_below d reads n (j / 2))
          ≡ child (slice file (old_pair_place d.chunk k (j / 2)) 64) j (old_known_below d file n (j / 2))
      by up None at =
          ap (λ (p : Option (List ℕ)). child (slice reads (pair_place d.chunk k (j / 2)) 64) j p) (up ∙ at)
          ∙ sym (ap (λ (p : Option (List ℕ)). child (slice file (old_pair_place d.chunk k (j / 2)) 64) j p) at)
      by up (Some x) at =
          ap (λ (p : Option (List ℕ)). child (slice reads (pair_place d.chunk k (j / 2)) 64) j p) up
          ∙ ap (λ (bytes : List ℕ). child bytes j (old_known_below d file n (j / 2)))
          (pair_same k (j / 2) (pair_low n (j / 2) le (inside_tree d file n (j / 2) x at)))

  pub known_same : (k j : ℕ) → known d reads k j ≡ old_known d file k j
  known_same k j = ap (λ (o : Option (List ℕ)). cond (nat_le k (height_of d)) o None) (below_same (height_of d - k) j (omega arith))

  pub holds_same : IsDescriptor d → (i : ℕ) → i < chunks_of d → holds d reads i ≡ old_holds d file i
  holds_same valid i lt =
      let want = chunk_length d.size d.chunk i in
      let covers = covers_all d valid in
      let slot : i < 2 ^ height_of d = omega (arith, lt, covers) in
      let le = slot_order (slot_size d.chunk) i (2 ^ height_of d) slot in
      let old_le = slot_order (old_slot_size d.chunk) i (2 ^ height_of d) slot in
      let book : known d reads ≡ old_known d file = (λ t k j. known_same k j t) in
      let bytes : slice reads (chunk_place d.chunk i) want ≡ slice file (old_chunk_place d.chunk i) want =
      slices_same reads file (chunk_place d.chunk i) (old_chunk_place d.chunk i) want (omega (arith, le, is.long)) (omega (arith, old_le, is.old_long))
      (λ r low. is.same i r slot (omega (arith, low))) in
      (λ t. has_peaks (book t) (chunks_of d) && (length (bytes t) == want) && matches (book t 0 i) (sha256 (bytes t)))
