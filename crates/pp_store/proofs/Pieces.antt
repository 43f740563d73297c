-- The pieces of a content's store: each has its own range, so a write of one keeps the others.
use Rattle.std.proofs.Common.{◌≡◌, ◌⊎◌, inl, inr, ⊎_elim, ℕ, zero, suc, ◌+◌, ◌-◌, ◌*◌, ◌/◌, ◌^◌, ◌<◌, ◌≤◌, List, length, drop, refl, sym, ◌∙◌, ap, subst, arith}
use Rattle.std.proofs.Math.Nat.{mul-le-mul_left}
use Rattle.std.proofs.Math.Pow.{pow_mono}
use Rattle.std.proofs.lemmas.Nat.{pow_pos}
use Rattle.std.proofs.lemmas.Bool.{cases_lt, cases_eq}
use Rattle.std.proofs.lemmas.List.{length-take, length-append}
use Rattle.sha2.proofs.Facts256.{length-sha256}
use Rattle.pp_terms.specs.tree.Content.{chunk_of}
use Rattle.pp_terms.specs.tree.Tree.{pair, leaf_of, above, height}
use Rattle.pp_terms.specs.disk.Store.{header, slot_size, chunk_place, pair_slot, pair_place, gate_place, open_gate, file_size, AreApart, Has, IsPiece, the_header, a_chunk, a_pair, a_gate}
use Rattle.pp_terms.specs.format.Descriptor.{Descriptor, height_of}
use Rattle.pp_terms.specs.disk.Disk.{written}
use Rattle.pp_terms.proofs.Headers.{length-header}
use Rattle.pp_terms.proofs.Heights.{height_is}
use Rattle.pp_terms.proofs.Images.{length-written, written_inside, written_outside}
use Rattle.pp_terms.proofs.Nodes.{length-node}
use Rattle.pp_terms.proofs.Peaks.{doubled, above_is}
use Rattle.pp_tree.proofs.BinNumbers.{same_odd}
use Rattle.pp_tree.proofs.Sizes.{chunk_count_range, chunk_size_range}
use Rattle.pp_store.specs.Imported.{imported}
use Rattle.pp_store.specs.Growing.{IsContent, IsStaged, HasChunk, chunks_in, digest_of}

-- a write of bytes puts them there, and keeps those elsewhere
pub has_written : (old : List ℕ) (place : ℕ) (bytes : List ℕ) → Has place bytes (written old place bytes)
has_written old place bytes = record {
  inside = omega (arith, length-written old place bytes);
  same = λ k lt. written_inside old place bytes k lt;
}

pub has_elsewhere : (old : List ℕ) (place at : ℕ) (bytes kept : List ℕ) → AreApart at (length kept) place (length bytes)
    → Has at kept old → Has at kept (written old place bytes)
has_elsewhere old place at bytes kept apart has = record {
  inside = omega (arith, has.inside, length-written old place bytes);
  same = λ k lt. written_outside old place bytes (at + k) (λ w. ⊎_elim (λ before. omega (arith, w.0)) (λ behind. omega (arith, w.1)) apart)
      ∙ has.same k lt;
}

-- powers of two
pub power_up : (k n h : ℕ) → k + n ≡ h → 2 ^ h ≡ 2 ^ n * 2 ^ k
power_up zero n h top = let e : n ≡ h = omega arith in ap (λ (m : ℕ). 2 ^ m) (sym e) ∙ omega arith
power_up (suc k) n h top =
    power_up k (suc n) h (omega arith) ∙ (let e : 2 ^ suc n ≡ 2 ^ n * 2 = doubled n in
    let f : 2 ^ suc k ≡ 2 ^ k * 2 = doubled k in
    let g : 2 ^ suc n * 2 ^ k ≡ 2 ^ n * 2 * 2 ^ k = ap (λ (p : ℕ). p * 2 ^ k) e in
    let h' : 2 ^ n * 2 ^ suc k ≡ 2 ^ n * (2 ^ k * 2) = ap (λ (p : ℕ). 2 ^ n * p) f in omega arith)

-- a node that covers a chunk lies below the root's layer's end
pub offset_low : (k n h j m : ℕ) → k + n ≡ h → m ≤ 2 ^ h → j * 2 ^ k < m → j < 2 ^ n
offset_low k n h j m top covers lt = ⊎_elim
    (λ low. low)
    (λ high. absurd (let e = power_up k n h top in let le : 2 ^ n * 2 ^ k ≤ j * 2 ^ k = grind arith in omega arith))
    (cases_lt j (2 ^ n))

-- the slot of a pair, as an odd number and a power of two
pub slot_is : (k j : ℕ) → pair_slot k j + 1 ≡ 2 ^ k * (2 * j + 1)
slot_is k j =
    let some : 0 < 2 ^ k = pow_pos k in
    let twice : j * 2 ^ suc k ≡ j * (2 ^ k * 2) = ap (λ (p : ℕ). j * p) (doubled k) in
    omega arith

pub same_slot : (k l j i : ℕ) → pair_slot k j ≡ pair_slot l i → (k ≡ l) × (j ≡ i)
same_slot k l j i e = same_odd k l j i (omega (arith, slot_is k j, slot_is l i))

-- the range lies in slot s
pub record IsInSlot (chunk place size s : ℕ) : Type 0 where
  pub from : chunk_place chunk s ≤ place
  pub to : place + size ≤ chunk_place chunk s + slot_size chunk

pub slot_order : (w s t : ℕ) → s < t → s * w + w ≤ t * w
slot_order w s t lt = let le : suc s * w ≤ t * w = grind arith in omega arith

pub slots_apart : (chunk place size other size' s t : ℕ) → (s ≡ t → ⊥) → IsInSlot chunk place size s → IsInSlot chunk other size' t
    → AreApart place size other size'
slots_apart chunk place size other size' s t differ one two = ⊎_elim
    (λ low. inl (let le = slot_order (slot_size chunk) s t low in omega (arith, one.to, two.from)))
    (λ high. inr (let lt : t < s = (⊎_elim (λ e. absurd (differ e)) (λ ne. omega arith) (cases_eq s t)) in
    let le = slot_order (slot_size chunk) t s lt in omega (arith, one.from, two.to)))
    (cases_lt s t)

-- the header of a content's store has 64 bytes
pub header_size : (chunk : ℕ) (content : List ℕ) → length (header (imported content chunk)) ≡ 64
header_size chunk content = length-header (imported content chunk)
    (length-node (leaf_of content chunk) (chunks_in chunk content) (height (chunks_in chunk content)) 0 (λ i. length-sha256 (chunk_of content chunk i)))

module _ (chunk : ℕ) (content : List ℕ) (fits : IsContent chunk content) where
  pub some_chunk : 0 < chunk
  some_chunk = let range = chunk_size_range chunk fits.chunk_size in omega (arith, range.0)

  pub count_range : (0 < chunks_in chunk content) × (chunks_in chunk content ≤ 2 ^ 20)
  count_range = chunk_count_range (length content) chunk some_chunk fits.content_size

  header-64 : length (header (imported content chunk)) ≡ 64
  header-64 = header_size chunk content

  pub pair-64 : (k j : ℕ) → length (pair (leaf_of content chunk) (chunks_in chunk content) k j) ≡ 64
  pair-64 k j =
      let long : (i : ℕ) → length (digest_of chunk content k i) ≡ 32 = λ i. length-node (leaf_of content chunk) (chunks_in chunk content) k i (λ l. length-sha256 (chunk_of content chunk l)) in
      length-append (digest_of chunk content k (2 * j)) (digest_of chunk content k (2 * j + 1)) ∙ omega (arith, long (2 * j), long (2 * j + 1))

  chunk_in : (i : ℕ) → IsInSlot chunk (chunk_place chunk i) (length (chunk_of content chunk i)) i
  chunk_in i = record { from = omega arith; to = omega (arith, length-take chunk (drop (i * chunk) content)) }

  pair_in : (k j : ℕ) → IsInSlot chunk (pair_place chunk k j) (length (pair (leaf_of content chunk) (chunks_in chunk content) k j)) (pair_slot k j)
  pair_in k j = record { from = omega arith; to = omega (arith, pair-64 k j) }

  gate_in : (i : ℕ) → IsInSlot chunk (gate_place chunk i) (length open_gate) i
  gate_in i = record { from = omega arith; to = omega arith }

  abbrev Piece : ℕ → List ℕ → Type 0
  Piece place bytes = IsPiece (imported content chunk) content place bytes

  chunks_apart : (i j : ℕ) → ((chunk_place chunk i ≡ chunk_place chunk j) × (chunk_of content chunk i ≡ chunk_of content chunk j))
      ⊎ AreApart (chunk_place chunk i) (length (chunk_of content chunk i)) (chunk_place chunk j) (length (chunk_of content chunk j))
  chunks_apart i j = ⊎_elim
      (λ e. inl (ap (λ (s : ℕ). chunk_place chunk s) e, ap (λ (s : ℕ). chunk_of content chunk s) e))
      (λ ne. inr (slots_apart chunk _ _ _ _ i j ne (chunk_in i) (chunk_in j)))
      (cases_eq i j)

  chunk_pair_apart : (i k j : ℕ) → AreApart (chunk_place chunk i) (length (chunk_of content chunk i))
      (pair_place chunk k j) (length (pair (leaf_of content chunk) (chunks_in chunk content) k j))
  chunk_pair_apart i k j = ⊎_elim
      (λ e. inl (let same : chunk_place chunk i ≡ chunk_place chunk (pair_slot k j) = ap (λ (s : ℕ). chunk_place chunk s) e in omega (arith, length-take chunk (drop (i * chunk) content))))
      (λ ne. slots_apart chunk _ _ _ _ i (pair_slot k j) ne (chunk_in i) (pair_in k j))
      (cases_eq i (pair_slot k j))

  pairs_apart : (k j l i : ℕ) → ((pair_place chunk k j ≡ pair_place chunk l i) × (pair (leaf_of content chunk) (chunks_in chunk content) k j ≡ pair (leaf_of content chunk) (chunks_in chunk content) l i))
      ⊎ AreApart (pair_place chunk k j) (length (pair (leaf_of content chunk) (chunks_in chunk content) k j))
      (pair_place chunk l i) (length (pair (leaf_of content chunk) (chunks_in chunk content) l i))
  pairs_apart k j l i = ⊎_elim
      (λ e. let same = same_slot k l j i e in
      inl (
        ap (λ (a : ℕ). pair_place chunk a j) same.0 ∙ ap (λ (b : ℕ). pair_place chunk l b) same.1,
        ap (λ (a : ℕ). pair (leaf_of content chunk) (chunks_in chunk content) a j) same.0 ∙ ap (λ (b : ℕ). pair (leaf_of content chunk) (chunks_in chunk content) l b) same.1,
      ))
      (λ ne. inr (slots_apart chunk _ _ _ _ (pair_slot k j) (pair_slot l i) ne (pair_in k j) (pair_in l i)))
      (cases_eq (pair_slot k j) (pair_slot l i))

  gates_apart : (i j : ℕ) → ((gate_place chunk i ≡ gate_place chunk j) × (open_gate ≡ open_gate))
      ⊎ AreApart (gate_place chunk i) (length open_gate) (gate_place chunk j) (length open_gate)
  gates_apart i j = ⊎_elim
      (λ e. inl (ap (λ (s : ℕ). gate_place chunk s) e, refl))
      (λ ne. inr (slots_apart chunk _ _ _ _ i j ne (gate_in i) (gate_in j)))
      (cases_eq i j)

  chunk_gate_apart : (i j : ℕ) → AreApart (chunk_place chunk i) (length (chunk_of content chunk i)) (gate_place chunk j) (length open_gate)
  chunk_gate_apart i j = ⊎_elim
      (λ e. inl (let same : chunk_place chunk i ≡ chunk_place chunk j = ap (λ (s : ℕ). chunk_place chunk s) e in omega (arith, length-take chunk (drop (i * chunk) content))))
      (λ ne. slots_apart chunk _ _ _ _ i j ne (chunk_in i) (gate_in j))
      (cases_eq i j)

  pair_gate_apart : (k j i : ℕ) → AreApart (pair_place chunk k j) (length (pair (leaf_of content chunk) (chunks_in chunk content) k j)) (gate_place chunk i) (length open_gate)
  pair_gate_apart k j i = ⊎_elim
      (λ e. inl (let same : chunk_place chunk (pair_slot k j) ≡ chunk_place chunk i = ap (λ (s : ℕ). chunk_place chunk s) e in omega (arith, pair-64 k j)))
      (λ ne. slots_apart chunk _ _ _ _ (pair_slot k j) i ne (pair_in k j) (gate_in i))
      (cases_eq (pair_slot k j) i)

  turned : (a s b t : ℕ) → AreApart a s b t → AreApart b t a s
  turned a s b t apart = ⊎_elim (λ l. inr l) (λ r. inl r) apart

  -- two pieces are one, or their ranges don't meet
  pub pieces_apart : (p : ℕ) (b : List ℕ) (q : ℕ) (c : List ℕ) → Piece p b → Piece q c → ((p ≡ q) × (b ≡ c)) ⊎ AreApart p (length b) q (length c)
  pieces_apart p b q c the_header the_header = inl (refl, refl)
  pieces_apart p b q c the_header (a_chunk i lt) = inr (inl (omega (arith, header-64)))
  pieces_apart p b q c the_header (a_pair k j low lt) = inr (inl (omega (arith, header-64)))
  pieces_apart p b q c (a_chunk i lt) the_header = inr (inr (omega (arith, header-64)))
  pieces_apart p b q c (a_chunk i lt) (a_chunk j lt') = chunks_apart i j
  pieces_apart p b q c (a_chunk i lt) (a_pair k j low lt') = inr (chunk_pair_apart i k j)
  pieces_apart p b q c (a_pair k j low lt) the_header = inr (inr (omega (arith, header-64)))
  pieces_apart p b q c (a_pair k j low lt) (a_chunk i lt') = inr (turned _ _ _ _ (chunk_pair_apart i k j))
  pieces_apart p b q c (a_pair k j low lt) (a_pair l i low' lt') = pairs_apart k j l i
  pieces_apart p b q c the_header (a_gate i lt) = inr (inl (omega (arith, header-64)))
  pieces_apart p b q c (a_chunk i lt) (a_gate j lt') = inr (chunk_gate_apart i j)
  pieces_apart p b q c (a_pair k j low lt) (a_gate i lt') = inr (pair_gate_apart k j i)
  pieces_apart p b q c (a_gate i lt) the_header = inr (inr (omega (arith, header-64)))
  pieces_apart p b q c (a_gate i lt) (a_chunk j lt') = inr (turned _ _ _ _ (chunk_gate_apart j i))
  pieces_apart p b q c (a_gate i lt) (a_pair k j low lt') = inr (turned _ _ _ _ (pair_gate_apart k j i))
  pieces_apart p b q c (a_gate i lt) (a_gate j lt') = gates_apart i j

  abbrev d : Descriptor
  d = imported content chunk

  pub covers : chunks_in chunk content ≤ 2 ^ height_of d
  covers = (height_is (chunks_in chunk content) count_range.0 count_range.1).covers

  -- the slot of the pair of a node that covers a chunk
  pub pair_slot_low : (k j : ℕ) → k < height_of d → j * 2 ^ suc k < chunks_in chunk content → pair_slot k j < 2 ^ height_of d
  pair_slot_low k j low lt =
      let n = height_of d - suc k in
      let top : suc k + n ≡ height_of d = omega arith in
      let split : 2 ^ height_of d ≡ 2 ^ n * 2 ^ suc k = power_up (suc k) n (height_of d) top in
      let some' : 0 < 2 ^ k = pow_pos k in
      let below : j < 2 ^ n = offset_low (suc k) n (height_of d) j (chunks_in chunk content) top covers lt in
      let le = mul-le-mul_left (2 ^ suc k) below in
      let step : 2 ^ suc k * suc j ≡ j * 2 ^ suc k + 2 ^ suc k = omega arith in
      omega (arith, le, step, split, doubled k, some')

  -- a write of a piece keeps every piece
  pub piece_kept : (old : List ℕ) (p : ℕ) (b : List ℕ) (q : ℕ) (c : List ℕ) → Piece p b → Piece q c → Has p b old → Has p b (written old q c)
  piece_kept old p b q c one two has = ⊎_elim
      (λ same. subst (λ (x : ℕ). Has x b (written old q c)) (sym same.0) (subst (λ (x : List ℕ). Has q x (written old q c)) (sym same.1) (has_written old q c)))
      (λ apart. has_elsewhere old q p c b apart has)
      (pieces_apart p b q c one two)

  -- each piece ends with the store or before
  slot_end : (place size s : ℕ) → s < 2 ^ height_of d → IsInSlot chunk place size s → place + size ≤ file_size d
  slot_end place size s lt is = let le = slot_order (slot_size chunk) s (2 ^ height_of d) lt in omega (arith, is.to)

  pub piece_end : (q : ℕ) (c : List ℕ) → Piece q c → q + length c ≤ file_size d
  piece_end q c the_header = let first = slot_end (chunk_place chunk 0) 0 0 (pow_pos (height_of d)) (record { from = omega arith; to = omega arith }) in omega (arith, header-64, first)
  piece_end q c (a_chunk i lt) = slot_end _ _ i (omega (arith, lt, covers)) (chunk_in i)
  piece_end q c (a_gate i lt) = slot_end _ _ i (omega (arith, lt, covers)) (gate_in i)
  piece_end q c (a_pair k j low lt) = slot_end _ _ (pair_slot k j) (pair_slot_low k j low lt) (pair_in k j)

  pub staged_more : (old : List ℕ) (q : ℕ) (c : List ℕ) → Piece q c → IsStaged chunk content old → IsStaged chunk content (written old q c)
  staged_more old q c two staged = record {
    zeros = λ k outside. written_outside old q c k (outside q c two) ∙ staged.zeros k outside;
    size = omega (arith, length-written old q c, staged.size, piece_end q c two);
  }

  -- and every chunk with its gate
  pub chunk_kept : (old : List ℕ) (i q : ℕ) (c : List ℕ) → i < chunks_in chunk content → Piece q c → HasChunk chunk content old i → HasChunk chunk content (written old q c) i
  chunk_kept old i q c lt two has = record {
    there = piece_kept old _ _ q c (a_chunk i lt) two has.there;
    gate = piece_kept old _ _ q c (a_gate i lt) two has.gate;
  }

  -- the pair of a node with all its leaves below a count is a piece
  pub pair_low : (k j count : ℕ) → count ≤ chunks_in chunk content → j < above (suc k) count
      → (k < height (chunks_in chunk content)) × (j * 2 ^ suc k < chunks_in chunk content)
  pair_low k j count le lt =
      let n = chunks_in chunk content in
      let some : 0 < 2 ^ suc k = pow_pos (suc k) in
      let at : j < count / 2 ^ suc k = subst (λ (x : ℕ). j < x) (above_is (suc k) count) lt in
      let up : suc j * 2 ^ suc k ≤ count = grind arith in
      let one : 2 ^ suc k ≤ n = grind arith in
      let tall = height_is n count_range.0 count_range.1 in (
        ⊎_elim (λ below. below) (λ above'. absurd (let mono : 2 ^ height n ≤ 2 ^ k = pow_mono above' in omega (arith, tall.covers, doubled k, pow_pos k))) (cases_lt k (height n)),
        omega arith,
      )
