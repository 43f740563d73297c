-- Which pairs a file has: those whose digests its book knows.
use Rattle.std.proofs.Common.{◌≡◌, ⊎_elim, ℕ, zero, suc, ◌+◌, ◌-◌, ◌*◌, ◌/◌, ◌%◌, ◌^◌, ◌<◌, ◌≤◌, ◌==◌, nat_eq, Bool, true, false, cond, Option, Some, None, List, ◌++◌, length, get_or, take, drop, replicate, refl, sym, ◌∙◌, ap, subst, arith, get_or-set_other, get_or-set_same}
use Rattle.std.specs.Prelude.{◌&&◌, is_some}
use Rattle.std.specs.Int.{w32, trailing_zeros}
use Rattle.std.specs.Cmp.Lexicographic.{pointwise, same_text}
use Rattle.std.proofs.Math.ListN.{set}
use Rattle.std.proofs.Math.Nat.{mod-eq_of_lt, mul-le-mul_left}
use Rattle.std.proofs.Math.Pow.{pow_mono}
use Rattle.std.proofs.lemmas.Bool.{cases_lt, cases_eq, cases_Bool, false≢true, eqb-true, and_parts}
use Rattle.std.proofs.lemmas.List.{places, take-append-drop, get_or_past, get_or-replicate, length-replicate}
use Rattle.std.proofs.lemmas.Nat.{pow_pos}
use Rattle.sha2.specs.Sha256.{sha256}
use Rattle.pp_terms.specs.tree.Tree.{above, height}
use Rattle.pp_terms.specs.tree.Book.{LookUp, IsJoined, IsRooted, has_peaks}
use Rattle.pp_terms.specs.format.Descriptor.{Descriptor, chunks_of, height_of, IsDescriptor}
use Rattle.pp_terms.specs.disk.Store.{pair_slot, pair_place, Has}
use Rattle.pp_terms.specs.disk.Image.{slice, half, child, known_below}
use Rattle.pp_terms.specs.tree.Proves.{first_absent, last_layer}
use Rattle.pp_terms.proofs.Heights.{height_is}
use Rattle.pp_terms.proofs.Facts.{same_bool, value_of, has_value}
use Rattle.pp_terms.proofs.Halves.{half_odd, half_even}
use Rattle.pp_terms.proofs.Peaks.{doubled, above_is}
use Rattle.pp_paths.proofs.PeakNodes.{last_is, peak_known}
use Rattle.pp_scan.specs.Layers.{HasKnown}
use Rattle.pp_scan.proofs.Children.{child_known}
use Rattle.pp_scan.proofs.Layering.{shifted}
use Rattle.pp_store.specs.Pairs.{has_pair, IsUnfilled, HasItsPairs, PairStands, PairsStand, KeepsPairs}
use Rattle.pp_store.proofs.Pieces.{slot_is, same_slot}
use Rattle.pp_store.proofs.Rereading.{text_itself}
use Rattle.pp_store.proofs.KnownPairs.{HasPeaks, unfilled_joined, way_joined}
use Rattle.pp_store.proofs.Surviving.{some_chunks, peak_in, known_at, slice_inside}

-- a number is its lowest power of two times the rest
odd_part : (t k : ℕ) → ((l : ℕ) → l < k → above l t % 2 ≡ 0) → t ≡ 2 ^ k * above k t
odd_part t zero lower = omega arith
odd_part t (suc k) lower =
    let before = odd_part t k (λ l lt. lower l (omega arith)) in
    let even = lower k (omega arith) in
    let half : above k t ≡ above (suc k) t * 2 = omega arith in
    let up : 2 ^ suc k * above (suc k) t ≡ 2 ^ k * 2 * above (suc k) t = ap (λ (p : ℕ). p * above (suc k) t) (doubled k) in
    let e : 2 ^ k * above k t ≡ 2 ^ k * (above (suc k) t * 2) = ap (λ (a : ℕ). 2 ^ k * a) half in
    omega arith

last_of : (t : ℕ) → 0 < t → t < 2 ^ 32 → (above (trailing_zeros w32 t) t % 2 ≡ 1) × ((l : ℕ) → l < trailing_zeros w32 t → above l t % 2 ≡ 0)
unfolding last_layer
last_of t some fits = let last = last_is t some fits in (last.odd, last.lower)

-- the node whose pair a slot has
pub slot_node : (slot : ℕ) → slot < 2 ^ 21
    → (j : ℕ) × (2 * ((slot + 1) / 2 ^ (trailing_zeros w32 (slot + 1) + 1)) ≡ 2 * j) × (slot ≡ pair_slot (trailing_zeros w32 (slot + 1)) j)
slot_node slot low =
    let t = slot + 1 in
    let some : 0 < t = omega arith in
    let fits : t < 2 ^ 32 = omega arith in
    let last = last_of t some fits in
    let k = trailing_zeros w32 t in
    let j = t / 2 ^ (k + 1) in
    let more : k + 1 ≡ suc k = omega arith in
    let at : above (suc k) t ≡ j = above_is (suc k) t ∙ ap (λ (n : ℕ). t / 2 ^ n) (sym more) in
    let odd : above k t ≡ 2 * j + 1 = (let one = last.0 in omega arith) in
    let whole : t ≡ 2 ^ k * (2 * j + 1) = odd_part t k last.1 ∙ ap (λ (a : ℕ). 2 ^ k * a) odd in
    (j, refl, omega (arith, slot_is k j, whole))

-- its layer is one of 32 bits
pub slot_layer : (slot : ℕ) → slot < 2 ^ 21 → trailing_zeros w32 (slot + 1) + 1 < 32
slot_layer slot low =
    let (j, offset, is) = slot_node slot low in
    let k = trailing_zeros w32 (slot + 1) in
    ⊎_elim
    (λ high. absurd (
    let up : 2 ^ 22 ≤ 2 ^ k = pow_mono high in
    let le : 2 ^ k * 1 ≤ 2 ^ k * (2 * j + 1) = mul-le-mul_left (2 ^ k) (one_more j) in
    let e : slot + 1 ≡ 2 ^ k * (2 * j + 1) = ap (λ (s : ℕ). s + 1) is ∙ slot_is k j in
    omega arith
    ))
    (λ few. omega arith)
    (cases_lt 21 k)
  where
    one_more : (j : ℕ) → 1 ≤ 2 * j + 1
    one_more j = omega arith

-- a slot as the code makes it
pub slot_made : (k j : ℕ) → k < 20 → (2 * j + 1) * (1 * 2 ^ k % 4294967296) - 1 ≡ pair_slot k j
slot_made k j low =
    let step : 1 * 2 ^ k % 4294967296 ≡ 2 ^ k = shifted k (omega arith) in
    let e : (2 * j + 1) * (1 * 2 ^ k % 4294967296) ≡ (2 * j + 1) * 2 ^ k = ap (λ (p : ℕ). (2 * j + 1) * p) step in
    omega (arith, slot_is k j, e)

-- ---- the pairs that were marked, slot by slot

-- Below this slot those are marked whose left digest the book has, and no others.
pub record IsMarking (height : ℕ) (book : LookUp) (pairs : List Bool) (slot : ℕ) : Type 0 where
  pub only : (k j : ℕ) → k < height → has_pair pairs k j ≡ true → is_some (book k (2 * j)) ≡ true
  pub each : (k j : ℕ) → k < height → pair_slot k j < slot → is_some (book k (2 * j)) ≡ true → has_pair pairs k j ≡ true

pub none_size : (pairs : List Bool) (n : ℕ) → pairs ≡ replicate n false → length pairs ≡ n
none_size pairs n is = ap (λ (ps : List Bool). length ps) is ∙ length-replicate n false

pub none_marked : (height : ℕ) (book : LookUp) (pairs : List Bool) (n : ℕ) → pairs ≡ replicate n false → IsMarking height book pairs 0
none_marked height book pairs n is = record {
  only = λ k j inner at. absurd (false≢true (sym (ap (λ (ps : List Bool). get_or ps (pair_slot k j) false) is ∙ none (pair_slot k j)) ∙ at));
  each = λ k j inner lt. absurd (omega arith);
}
  where
    none : (i : ℕ) → get_or (replicate n false) i false ≡ false
    none i = ⊎_elim (λ lt. get_or-replicate n i false false lt) (λ ge. get_or_past (replicate n false) i false (let size : length (replicate n false) ≡ n = length-replicate n false in omega arith)) (cases_lt i n)

module _ (height : ℕ) (book : LookUp) (pairs : List Bool) (slot layer offset : ℕ) (node : (j : ℕ) × (offset ≡ 2 * j) × (slot ≡ pair_slot layer j))
    (before : IsMarking height book pairs slot) where
  here : (k j : ℕ) → pair_slot k j ≡ slot → (k ≡ layer) × (2 * j ≡ offset)
  here k j at =
      let same = same_slot k layer j node.0 (at ∙ node.2) in
      (same.0, ap (λ (i : ℕ). 2 * i) same.1 ∙ sym node.1)

  there : (k j : ℕ) → pair_slot k j ≡ slot → is_some (book k (2 * j)) ≡ is_some (book layer offset)
  there k j at = let same = here k j at in ap (λ (l : ℕ). is_some (book l (2 * j))) same.0 ∙ ap (λ (i : ℕ). is_some (book layer i)) same.1

  pub marked : (pairs' : List Bool) → slot < length pairs → is_some (book layer offset) ≡ true → pairs' ≡ set pairs slot true → IsMarking height book pairs' (slot + 1)
  marked pairs' inside found is = record {
    only = λ k j inner at. ⊎_elim
        (λ same. there k j same ∙ found)
        (λ other. before.only k j inner (sym (get_or-set_other pairs slot (pair_slot k j) true false other) ∙ ap (λ (ps : List Bool). get_or ps (pair_slot k j) false) (sym is) ∙ at))
        (cases_eq (pair_slot k j) slot);
    each = λ k j inner lt at. ap (λ (ps : List Bool). get_or ps (pair_slot k j) false) is ∙ ⊎_elim
        (λ same. ap (λ (s : ℕ). get_or (set pairs slot true) s false) same ∙ get_or-set_same pairs slot true false inside)
        (λ other. get_or-set_other pairs slot (pair_slot k j) true false other ∙ before.each k j inner (omega arith) at)
        (cases_eq (pair_slot k j) slot);
  }

  pub unmarked : (layer < height → is_some (book layer offset) ≡ false) → IsMarking height book pairs (slot + 1)
  unmarked absent = record {
    only = before.only;
    each = λ k j inner lt at. ⊎_elim
        (λ same. absurd (false≢true (sym (there k j same ∙ absent (subst (λ (l : ℕ). l < height) (here k j same).0 inner)) ∙ at)))
        (λ other. before.each k j inner (omega arith) at)
        (cases_eq (pair_slot k j) slot);
  }

pub marked_all : (height : ℕ) (book : LookUp) (pairs : List Bool) (slot : ℕ) → IsMarking height book pairs slot
    → (k j : ℕ) → k < height → pair_slot k j < slot → has_pair pairs k j ≡ is_some (book k (2 * j))
marked_all height book pairs slot is k j inner lt = same_bool (has_pair pairs k j) (is_some (book k (2 * j))) (is.only k j inner) (is.each k j inner lt)

-- ---- what is marked of a file that was scanned

pub low_height : (d : Descriptor) → IsDescriptor d → height_of d ≤ 20
low_height d valid =
    let range = some_chunks d valid in
    ⊎_elim
    (λ high. absurd (let least = (height_is (chunks_of d) range.0 range.1).least 20 high in omega arith))
    (λ low. low)
    (cases_lt 20 (height_of d))

-- the slot of a node that covers a chunk
pub slot_low : (d : Descriptor) (k j : ℕ) → IsDescriptor d → k < height_of d → j * 2 ^ suc k < chunks_of d → pair_slot k j < 2 * chunks_of d
slot_low d k j valid inner covers =
    let range = some_chunks d valid in
    let least : 2 ^ k < chunks_of d = (height_is (chunks_of d) range.0 range.1).least k inner in
    omega arith

-- the bounds that the code needs
pub pair_bounds : (d : Descriptor) (k j : ℕ) → IsDescriptor d → k < height_of d → j * 2 ^ suc k < chunks_of d
    → (k < 20) × (j * 2 ^ suc k < 2 ^ 20) × (pair_slot k j < 2 * chunks_of d) × (pair_slot k j < 2 ^ 21)
pair_bounds d k j valid inner covers =
    let range = some_chunks d valid in
    let low = low_height d valid in
    let slot = slot_low d k j valid inner covers in
    (omega arith, omega arith, slot, omega arith)

abbrev pub IsMarked : Descriptor → LookUp → List Bool → Type 0
IsMarked d book pairs = (k j : ℕ) → k < height_of d → pair_slot k j < 2 * chunks_of d → has_pair pairs k j ≡ is_some (book k (2 * j))

pub peaks_of : (d : Descriptor) (book : LookUp) → has_peaks book (chunks_of d) ≡ true → HasPeaks d book
peaks_of d book all k low odd = value_of (book k (above k (chunks_of d) - 1)) (peak_in book (chunks_of d) 21 k all low odd)

-- a chunk that is held has its pairs
pub marked_pairs : (d : Descriptor) (book : LookUp) (pairs : List Bool) (i : ℕ) → IsDescriptor d → IsRooted d book → IsMarked d book pairs → i < chunks_of d
    → is_some (book 0 i) ≡ true → has_peaks book (chunks_of d) ≡ true → HasItsPairs d pairs i
marked_pairs d book pairs i valid rooted marked within leaf all = record {
  way = λ k inner.
      let (left, right, joined) = way_joined d book i k rooted leaf inner in
      let some : 0 < 2 ^ suc k = pow_pos (suc k) in
      let le : above (suc k) i * 2 ^ suc k ≤ i = (let e : above (suc k) i * 2 ^ suc k ≡ i / 2 ^ suc k * 2 ^ suc k = ap (λ (a : ℕ). a * 2 ^ suc k) (above_is (suc k) i) in
      let f : i / 2 ^ suc k * 2 ^ suc k ≤ i = grind arith in omega arith) in
      marked k (above (suc k) i) inner (slot_low d k (above (suc k) i) valid inner (omega arith)) ∙ has_value _ left joined.left_is;
  unfilled = λ k is.
      let (left, right, joined) = unfilled_joined d book k rooted (peaks_of d book all) (low_height d valid) is in
      marked k (above (suc k) (chunks_of d)) is.inner (slot_low d k (above (suc k) (chunks_of d)) valid is.inner is.covers) ∙ has_value _ left joined.left_is;
}

-- a child that is known has its pair
child_from : (both : List ℕ) (j : ℕ) (o : Option (List ℕ)) (x : List ℕ) → child both j o ≡ Some x
    → (digest : List ℕ) × (o ≡ Some digest) × (length both ≡ 64) × (sha256 both ≡ digest)
child_from both j None x is = absurd cc
child_from both j (Some digest) x is = ⊎_elim
    (λ whole.
    let test = and_parts (length both == 64) (pointwise nat_eq (sha256 both) digest) whole in
    (digest, refl, eqb-true _ _ test.0, same_text (sha256 both) digest (sym test.1)))
    (λ part. absurd (let none : child both j (Some digest) ≡ None = ap (λ (b : Bool). cond b (Some (half j both)) None) part in cc))
    (cases_Bool ((length both == 64) && pointwise nat_eq (sha256 both) digest))

slice_byte : (reads : List ℕ) (place n k : ℕ) → k < n → get_or (take n (drop place reads)) k 0 ≡ get_or reads (place + k) 0
slice_byte reads place n k lt = grind (arith, places)

has_of_slice : (reads : List ℕ) (place : ℕ) → length (slice reads place 64) ≡ 64 → Has place (slice reads place 64) reads
has_of_slice reads place long = record {
  inside = let le = slice_inside reads place 64 (omega arith) long in omega (arith, le, long);
  same = λ k lt. sym (slice_byte reads place 64 k (omega (arith, lt, long)));
}

-- and stands in the file
pub marked_stand : (d : Descriptor) (book : LookUp) (pairs : List Bool) (reads : List ℕ) → IsMarked d book pairs → length pairs ≡ 2 * chunks_of d
    → HasKnown d reads book → PairsStand d book pairs reads
marked_stand d book pairs reads marked size known_is k j inner stored = from (value_of (book k (2 * j)) some)
  where
    inside : pair_slot k j < 2 * chunks_of d
    inside = ⊎_elim (λ lt. lt) (λ past. absurd (false≢true (sym (get_or_past pairs (pair_slot k j) false (omega (arith, size, past))) ∙ stored))) (cases_lt (pair_slot k j) (2 * chunks_of d))

    some : is_some (book k (2 * j)) ≡ true
    some = sym (marked k j inner inside) ∙ stored

    m : ℕ
    m = height_of d - suc k

    both : List ℕ
    both = slice reads (pair_place d.chunk k j) 64

    child_is : (i : ℕ) → i / 2 ≡ j → book k i ≡ child both i (known_below d reads (height_of d - suc k) j)
    child_is i half =
        let up : height_of d - k ≡ suc (height_of d - suc k) = omega arith in
        let down : height_of d - suc (height_of d - suc k) ≡ k = omega arith in
        known_is k i ∙ known_at d reads k i (omega arith) ∙ ap (λ (n : ℕ). known_below d reads n i) up
        ∙ ap (λ (l : ℕ). child (slice reads (pair_place d.chunk l (i / 2)) 64) i (known_below d reads (height_of d - suc k) (i / 2))) down
        ∙ ap (λ (b : ℕ). child (slice reads (pair_place d.chunk k b) 64) i (known_below d reads (height_of d - suc k) b)) half

    parent_is : known_below d reads (height_of d - suc k) j ≡ book (suc k) j
    parent_is = sym (known_is (suc k) j ∙ known_at d reads (suc k) j (omega arith))

    from : (x : List ℕ) × (book k (2 * j) ≡ Some x) → PairStands d book reads k j
    from (x, at) =
        let left_half : 2 * j / 2 ≡ j = omega arith in
        let right_half : (2 * j + 1) / 2 ≡ j = omega arith in
        let (digest, parent, long, hash) = child_from both (2 * j) (known_below d reads (height_of d - suc k) j) x (sym (child_is (2 * j) left_half) ∙ at) in
        let whole : take 32 both ++ drop 32 both ≡ both = take-append-drop 32 both in
        let known_child : (i : ℕ) → child both i (known_below d reads (height_of d - suc k) j) ≡ Some (half i both) = λ i.
        ap (λ (o : Option (List ℕ)). child both i o) parent ∙ child_known both digest i long (text_itself (sha256 both) digest hash) in
        record {
          left = take 32 both;
          right = drop 32 both;
          joined = record {
            left_is = child_is (2 * j) left_half ∙ known_child (2 * j) ∙ ap (λ (y : List ℕ). Some y) (half_even (2 * j) j both refl);
            right_is = child_is (2 * j + 1) right_half ∙ known_child (2 * j + 1) ∙ ap (λ (y : List ℕ). Some y) (half_odd (2 * j + 1) j both refl);
            joined = sym parent_is ∙ parent ∙ ap (λ (y : List ℕ). Some y) (sym hash ∙ ap sha256 (sym whole));
          };
          there = subst (λ (bytes : List ℕ). Has (pair_place d.chunk k j) bytes reads) (sym whole) (has_of_slice reads (pair_place d.chunk k j) long);
        }

-- ---- the nodes whose pairs a chunk needs, as the code counts them

pub shifted_down : (i k : ℕ) → i / 2 ^ (k + 1) ≡ above (suc k) i
shifted_down i k = (let more : k + 1 ≡ suc k = omega arith in ap (λ (n : ℕ). i / 2 ^ n) more) ∙ sym (above_is (suc k) i)

pub way_at : (d : Descriptor) (book : LookUp) (i k : ℕ) → IsRooted d book → is_some (book 0 i) ≡ true → k < height_of d
    → (left : List ℕ) × (right : List ℕ) × IsJoined book k (i / 2 ^ (k + 1)) left right
way_at d book i k rooted leaf inner =
    subst (λ (j : ℕ). (left : List ℕ) × (right : List ℕ) × IsJoined book k j left right) (sym (shifted_down i k)) (way_joined d book i k rooted leaf inner)

pub way_more : (i layer : ℕ) (pairs pairs' : List Bool) → KeepsPairs pairs pairs' → has_pair pairs' layer (i / 2 ^ (layer + 1)) ≡ true
    → ((k : ℕ) → k < layer → has_pair pairs k (above (suc k) i) ≡ true) → (k : ℕ) → k < layer + 1 → has_pair pairs' k (above (suc k) i) ≡ true
way_more i layer pairs pairs' stays here below k lt = ⊎_elim
    (λ low. stays _ (below k low))
    (λ high. let same : k ≡ layer = omega arith in
    ap (λ (l : ℕ). has_pair pairs' l (above (suc l) i)) same ∙ ap (λ (j : ℕ). has_pair pairs' layer j) (sym (shifted_down i layer)) ∙ here)
    (cases_lt k layer)

pub unfilled_more : (d : Descriptor) (layer : ℕ) (pairs pairs' : List Bool) → KeepsPairs pairs pairs'
    → (IsUnfilled d layer → has_pair pairs' layer (above (suc layer) (chunks_of d)) ≡ true)
    → ((k : ℕ) → k < layer → IsUnfilled d k → has_pair pairs k (above (suc k) (chunks_of d)) ≡ true)
    → (k : ℕ) → k < layer + 1 → IsUnfilled d k → has_pair pairs' k (above (suc k) (chunks_of d)) ≡ true
unfilled_more d layer pairs pairs' stays here below k lt is = ⊎_elim
    (λ low. stays _ (below k low is))
    (λ high. let same : k ≡ layer = omega arith in
    ap (λ (l : ℕ). has_pair pairs' l (above (suc l) (chunks_of d))) same ∙ here (subst (IsUnfilled d) same is))
    (cases_lt k layer)

-- the node behind the full ones, as the code tests it
pub covers_is : (d : Descriptor) (k n : ℕ) → IsDescriptor d → n ≡ chunks_of d → n / 2 ^ (k + 1) * 2 ^ (k + 1) % 4294967296 ≡ above (suc k) (chunks_of d) * 2 ^ suc k
covers_is d k n valid n_is =
    let more : k + 1 ≡ suc k = omega arith in
    let range = some_chunks d valid in
    let le : n / 2 ^ (k + 1) * 2 ^ (k + 1) ≤ n = (let some : 0 < 2 ^ (k + 1) = pow_pos (k + 1) in grind arith) in
    let fits : n / 2 ^ (k + 1) * 2 ^ (k + 1) < 4294967296 = omega arith in
    mod-eq_of_lt fits ∙ (λ i. shifted_down n k i * 2 ^ more i) ∙ ap (λ (m : ℕ). above (suc k) m * 2 ^ suc k) n_is

pub unfilled_at : (d : Descriptor) (book : LookUp) (k n : ℕ) → IsDescriptor d → n ≡ chunks_of d → IsRooted d book → first_absent book (chunks_of d) ≡ None
    → k < height_of d → n / 2 ^ (k + 1) * 2 ^ (k + 1) % 4294967296 < n
    → (left : List ℕ) × (right : List ℕ) × IsJoined book k (n / 2 ^ (k + 1)) left right
unfilled_at d book k n valid n_is rooted all inner test =
    let covers : above (suc k) (chunks_of d) * 2 ^ suc k < chunks_of d = (let e = covers_is d k n valid n_is in omega (arith, e)) in
    subst (λ (j : ℕ). (left : List ℕ) × (right : List ℕ) × IsJoined book k j left right)
    (sym (shifted_down n k ∙ ap (λ (m : ℕ). above (suc k) m) n_is))
    (unfilled_joined d book k rooted (λ l low odd. peak_known book (chunks_of d) l all low odd) (low_height d valid) (record { inner = inner; covers = covers }))

pub unfilled_stored : (d : Descriptor) (k n : ℕ) (pairs : List Bool) → n ≡ chunks_of d → has_pair pairs k (n / 2 ^ (k + 1)) ≡ true
    → IsUnfilled d k → has_pair pairs k (above (suc k) (chunks_of d)) ≡ true
unfilled_stored d k n pairs n_is here is = ap (λ (j : ℕ). has_pair pairs k j) (sym (shifted_down n k ∙ ap (λ (m : ℕ). above (suc k) m) n_is)) ∙ here

pub unfilled_none : (d : Descriptor) (k n : ℕ) → IsDescriptor d → n ≡ chunks_of d → n ≤ n / 2 ^ (k + 1) * 2 ^ (k + 1) % 4294967296 → IsUnfilled d k → ⊥
unfilled_none d k n valid n_is test is = let e = covers_is d k n valid n_is in let covers = is.covers in omega (arith, e, covers)
