-- Stored pairs let the book's nodes be known in a file, and a chunk that is there with its pairs stands.
use Rattle.std.proofs.Common.{◌≡◌, ⊎_elim, ℕ, zero, suc, ◌+◌, ◌-◌, ◌*◌, ◌/◌, ◌%◌, ◌^◌, ◌<◌, ◌≤◌, ◌==◌, nat_eq, Bool, true, false, cond, Option, Some, None, List, ◌++◌, length, take, drop, refl, sym, ◌∙◌, ap, subst, arith}
use Rattle.std.specs.Prelude.{◌&&◌, is_some}
use Rattle.std.specs.Cmp.Lexicographic.{pointwise}
use Rattle.std.proofs.lemmas.Nat.{pow_pos}
use Rattle.std.proofs.lemmas.Bool.{cases_lt, cases_eq, false≢true, eqb-true, and_parts}
use Rattle.std.proofs.lemmas.Bool.Decides.{nat_tests}
use Rattle.std.proofs.lemmas.List.{take_at, drop_at, length-append}
use Rattle.sha2.specs.Sha256.{sha256}
use Rattle.pp_terms.specs.tree.Content.{chunk_length}
use Rattle.pp_terms.specs.tree.Tree.{above}
use Rattle.pp_terms.specs.tree.Book.{LookUp, IsJoined, IsRooted, has_peaks}
use Rattle.pp_terms.specs.format.Descriptor.{Descriptor, chunks_of, height_of, IsDescriptor}
use Rattle.pp_terms.specs.disk.Store.{chunk_place, pair_place, HasHeader}
use Rattle.pp_terms.specs.disk.Image.{slice, child, known, known_below, matches}
use Rattle.pp_terms.proofs.Nodes.{hung}
use Rattle.pp_terms.proofs.Facts.{value_of}
use Rattle.pp_terms.proofs.Peaks.{doubled, above_is}
use Rattle.pp_paths.proofs.PeakNodes.{at_most_one}
use Rattle.pp_scan.specs.Holding.{is_there}
use Rattle.pp_scan.proofs.Finding.{some_bytes}
use Rattle.pp_scan.proofs.Children.{child_known}
use Rattle.pp_store.specs.Pairs.{IsUnfilled, HasItsPairs, PairStands, PairsStand}
use Rattle.pp_store.specs.Store.{HoldsIn}
use Rattle.pp_store.proofs.Pieces.{offset_low}
use Rattle.pp_store.proofs.Opening.{has_header}
use Rattle.pp_store.proofs.Rereading.{has_slice, text_itself}
use Rattle.pp_store.proofs.Surviving.{AllUp, up_way, up_peak, above_peak, known_at, peaks_in, peak_low, covers_all, slice_inside}

-- a child of a pair that stands
pair_child : (d : Descriptor) (book : LookUp) (reads : List ℕ) (k j : ℕ) (x : List ℕ) → IsRooted d book → PairStands d book reads k (j / 2)
    → book k j ≡ Some x → (o : Option (List ℕ)) → o ≡ book (suc k) (j / 2)
    → child (slice reads (pair_place d.chunk k (j / 2)) 64) j o ≡ Some x
pair_child d book reads k j x rooted stands at o parent =
    let left = stands.left in
    let right = stands.right in
    let left_long : length left ≡ 32 = rooted.digests k (2 * (j / 2)) left stands.joined.left_is in
    let right_long : length right ≡ 32 = rooted.digests k (2 * (j / 2) + 1) right stands.joined.right_is in
    let long : length (left ++ right) ≡ 64 = length-append left right ∙ omega arith in
    let read : slice reads (pair_place d.chunk k (j / 2)) 64 ≡ left ++ right =
    ap (λ (n : ℕ). slice reads (pair_place d.chunk k (j / 2)) n) (sym long) ∙ has_slice (pair_place d.chunk k (j / 2)) (left ++ right) reads stands.there in
    let test : pointwise nat_eq (sha256 (left ++ right)) (sha256 (left ++ right)) ≡ true = text_itself (sha256 (left ++ right)) (sha256 (left ++ right)) refl in
    ap (λ (p : Option (List ℕ)). child (slice reads (pair_place d.chunk k (j / 2)) 64) j p) (parent ∙ stands.joined.joined)
    ∙ ap (λ (bytes : List ℕ). child bytes j (Some (sha256 (left ++ right)))) read
    ∙ child_known (left ++ right) (sha256 (left ++ right)) j long test
    ∙ ⊎_elim
    (λ even. let t : (j % 2 == 0) ≡ true = grind (arith, nat_tests) in let e : 2 * (j / 2) ≡ j = omega arith in
    ap (λ (b : Bool). Some (cond b (take 32 (left ++ right)) (drop 32 (left ++ right)))) t ∙ ap (λ (y : List ℕ). Some y) (take_at left right 32 left_long)
    ∙ sym stands.joined.left_is ∙ ap (λ (i : ℕ). book k i) e ∙ at)
    (λ odd. let t : (j % 2 == 0) ≡ false = grind (arith, nat_tests) in let e : 2 * (j / 2) + 1 ≡ j = omega arith in
    ap (λ (b : Bool). Some (cond b (take 32 (left ++ right)) (drop 32 (left ++ right)))) t ∙ ap (λ (y : List ℕ). Some y) (drop_at left right 32 left_long)
    ∙ sym stands.joined.right_is ∙ ap (λ (i : ℕ). book k i) e ∙ at)
    (cases_eq (j % 2) 0)

-- where all pairs on the way up stand, a node of the book is known
pub known_up : (d : Descriptor) (book : LookUp) (reads : List ℕ) (n k j : ℕ) (x : List ℕ) → IsRooted d book → k + n ≡ height_of d → j < 2 ^ n
    → AllUp (PairStands d book reads) n k j → book k j ≡ Some x → known_below d reads n j ≡ Some x
known_up d book reads zero k j x rooted top low up at =
    let first : j ≡ 0 = omega arith in
    let high : k ≡ height_of d = omega arith in
    let test : (j == 0) ≡ true = grind (arith, nat_tests) in
    ap (λ (b : Bool). cond {A = Option (List ℕ)} b (Some d.root) None) test ∙ sym rooted.root_is
    ∙ ap (λ (l : ℕ). book l 0) (sym high) ∙ ap (λ (i : ℕ). book k i) (sym first) ∙ at
known_up d book reads (suc n) k j x rooted top low (here, up) at =
    let layer : height_of d - suc n ≡ k = omega arith in
    let up' : 2 ^ suc n ≡ 2 ^ n * 2 = doubled n in
    let half_low : j / 2 < 2 ^ n = omega arith in
    let parent : known_below d reads n (j / 2) ≡ book (suc k) (j / 2) =
    known_up d book reads n (suc k) (j / 2) (sha256 (here.left ++ here.right)) rooted (omega arith) half_low up here.joined.joined
    ∙ sym here.joined.joined in
    ap (λ (l : ℕ). child (slice reads (pair_place d.chunk l (j / 2)) 64) j (known_below d reads n (j / 2))) layer
    ∙ pair_child d book reads k j x rooted here at (known_below d reads n (j / 2)) parent

-- a peak covers chunks
peak_begins : (n k : ℕ) → above k n % 2 ≡ 1 → (above k n - 1) * 2 ^ k < n
peak_begins n k odd =
    let some : 0 < 2 ^ k = pow_pos k in
    let e : (above k n - 1 + 1) * 2 ^ k ≡ n / 2 ^ k * 2 ^ k = (let one : above k n - 1 + 1 ≡ n / 2 ^ k = (let at = above_is k n in omega arith) in ap (λ (x : ℕ). x * 2 ^ k) one) in
    let le : n / 2 ^ k * 2 ^ k ≤ n = grind arith in
    omega arith

-- a chunk that is there with its pairs is held
pub holds_there : (d : Descriptor) (book : LookUp) (pairs : List Bool) (reads : List ℕ) (i : ℕ) → IsDescriptor d → IsRooted d book → i < chunks_of d
    → HasHeader d reads → PairsStand d book pairs reads → HasItsPairs d pairs i → is_there d reads book i ≡ true → HoldsIn d reads i
holds_there d book pairs reads i valid rooted within begins stand has there =
    let want = chunk_length d.size d.chunk i in
    let bytes = slice reads (chunk_place d.chunk i) want in
    let both = and_parts (length bytes == want) (matches (book 0 i) (sha256 bytes)) there in
    let peaks : has_peaks (known d reads) (chunks_of d) ≡ true = peaks_in (known d reads) (chunks_of d) 21 (λ k lt odd. peak k (peak_low d k valid odd) odd) in
    let leaf : matches (known d reads 0 i) (sha256 bytes) ≡ true = leaf_matches (sha256 bytes) (book 0 i) refl both.1 in
    let inside = slice_inside reads (chunk_place d.chunk i) want (some_bytes d i valid within) (eqb-true _ _ both.0) in
    record { begins = has_header d reads valid begins (omega (arith, inside)); within = within; held = sym (sym (λ t. peaks t && both.0 t && leaf t)) }
  where
    covers : chunks_of d ≤ 2 ^ height_of d
    covers = covers_all d valid

    leaf_matches : (digest : List ℕ) (o : Option (List ℕ)) → book 0 i ≡ o → matches o digest ≡ true → matches (known d reads 0 i) digest ≡ true
    leaf_matches digest None at is = absurd (false≢true is)
    leaf_matches digest (Some x) at is =
        let whole : height_of d - 0 ≡ height_of d = omega arith in
        let up : AllUp (PairStands d book reads) (height_of d) 0 i =
        up_way (PairStands d book reads) (height_of d) i (height_of d) 0 (omega arith) (λ k inner. stand k (above (suc k) i) inner (has.way k inner)) in
        let here : known_below d reads (height_of d) i ≡ Some x = known_up d book reads (height_of d) 0 i x rooted (omega arith) (omega (arith, covers)) up at in
        let at' : known d reads 0 i ≡ Some x = known_at d reads 0 i (omega arith) ∙ ap (λ (n : ℕ). known_below d reads n i) whole ∙ here in
        ap (λ (o : Option (List ℕ)). matches o digest) at' ∙ is

    peak_there : (k : ℕ) → k ≤ height_of d → above k (chunks_of d) % 2 ≡ 1 → (x : List ℕ) × (book k (above k (chunks_of d) - 1) ≡ Some x)
    peak_there k low odd = ⊎_elim
        (λ inner.
        let is = above_peak d k inner odd in
        let pair = stand k (above (suc k) (chunks_of d)) inner (has.unfilled k is) in
        let e : 2 * above (suc k) (chunks_of d) ≡ above k (chunks_of d) - 1 = omega arith in
        (pair.left, ap (λ (j : ℕ). book k j) (sym e) ∙ pair.joined.left_is))
        (λ top.
        let at : k ≡ height_of d = omega arith in
        let one : above k (chunks_of d) ≤ 1 = at_most_one (chunks_of d) k (let e : 2 ^ k ≡ 2 ^ height_of d = ap (λ (l : ℕ). 2 ^ l) at in omega (arith, covers)) in
        let first : above k (chunks_of d) - 1 ≡ 0 = omega arith in
        (d.root, ap (λ (j : ℕ). book k j) first ∙ ap (λ (l : ℕ). book l 0) at ∙ rooted.root_is))
        (cases_lt k (height_of d))

    peak : (k : ℕ) → k ≤ height_of d → above k (chunks_of d) % 2 ≡ 1 → is_some (known d reads k (above k (chunks_of d) - 1)) ≡ true
    peak k low odd =
        let (x, at) = peak_there k low odd in
        let up : AllUp (PairStands d book reads) (height_of d - k) k (above k (chunks_of d) - 1) =
        up_peak d (PairStands d book reads) (height_of d - k) k (omega arith) odd (λ l is. stand l (above (suc l) (chunks_of d)) is.inner (has.unfilled l is)) in
        let under : (above k (chunks_of d) - 1) * 2 ^ k < chunks_of d = peak_begins (chunks_of d) k odd in
        let here = known_up d book reads (height_of d - k) k (above k (chunks_of d) - 1) x rooted (omega arith)
        (offset_low k (height_of d - k) (height_of d) (above k (chunks_of d) - 1) (chunks_of d) (omega arith) covers under) up at in
        ap (λ (o : Option (List ℕ)). is_some o) (known_at d reads k (above k (chunks_of d) - 1) low ∙ here)

-- a rooted book with all peaks has both children of each node above them
abbrev pub HasPeaks : Descriptor → LookUp → Type 0
HasPeaks d book = (k : ℕ) → k < 21 → above k (chunks_of d) % 2 ≡ 1 → (x : List ℕ) × (book k (above k (chunks_of d) - 1) ≡ Some x)

joined_odd : (d : Descriptor) (book : LookUp) (k : ℕ) → IsRooted d book → HasPeaks d book → height_of d ≤ 20 → k < height_of d
    → above k (chunks_of d) % 2 ≡ 1 → (left : List ℕ) × (right : List ℕ) × IsJoined book k (above (suc k) (chunks_of d)) left right
joined_odd d book k rooted all low inner odd =
    let (x, at) = all k (omega arith) odd in
    let rest : k + suc (height_of d - suc k) ≡ height_of d = omega arith in
    let half : (above k (chunks_of d) - 1) / 2 ≡ above (suc k) (chunks_of d) = omega arith in
    subst (λ (j : ℕ). (left : List ℕ) × (right : List ℕ) × IsJoined book k j left right) half
    (hung d book k (height_of d - suc k) (above k (chunks_of d) - 1) x rooted rest at)

pub unfilled_joined : (d : Descriptor) (book : LookUp) (k : ℕ) → IsRooted d book → HasPeaks d book → height_of d ≤ 20 → IsUnfilled d k
    → (left : List ℕ) × (right : List ℕ) × IsJoined book k (above (suc k) (chunks_of d)) left right
unfilled_joined d book zero rooted all low is = ⊎_elim
    (λ odd. joined_odd d book 0 rooted all low is.inner odd)
    (λ even. absurd (let covers = is.covers in let inner = is.inner in omega arith))
    (cases_eq (chunks_of d % 2) 1)
unfilled_joined d book (suc l) rooted all low is = ⊎_elim
    (λ odd. joined_odd d book (suc l) rooted all low is.inner odd)
    (λ even.
    let twice : above (suc l) (chunks_of d) ≡ above (suc (suc l)) (chunks_of d) * 2 = omega arith in
    let up : 2 ^ suc (suc l) ≡ 2 ^ suc l * 2 = doubled (suc l) in
    let same : above (suc (suc l)) (chunks_of d) * 2 ^ suc (suc l) ≡ above (suc (suc l)) (chunks_of d) * (2 ^ suc l * 2) =
    ap (λ (p : ℕ). above (suc (suc l)) (chunks_of d) * p) up in
    let same' : above (suc l) (chunks_of d) * 2 ^ suc l ≡ above (suc (suc l)) (chunks_of d) * 2 * 2 ^ suc l = ap (λ (a : ℕ). a * 2 ^ suc l) twice in
    let covers : above (suc l) (chunks_of d) * 2 ^ suc l < chunks_of d = (let it = is.covers in omega arith) in
    let inner : l < height_of d = (let it = is.inner in omega arith) in
    let (left, right, joined) = unfilled_joined d book l rooted all low (record { inner = inner; covers = covers }) in
    let rest : suc l + suc (height_of d - suc (suc l)) ≡ height_of d = (let it = is.inner in omega arith) in
    hung d book (suc l) (height_of d - suc (suc l)) (above (suc l) (chunks_of d)) (sha256 (left ++ right)) rooted rest joined.joined)
    (cases_eq (above (suc l) (chunks_of d) % 2) 1)

-- and of each node on a chunk's way
pub way_there : (d : Descriptor) (book : LookUp) (i : ℕ) (x : List ℕ) (k : ℕ) → IsRooted d book → book 0 i ≡ Some x → k ≤ height_of d
    → (y : List ℕ) × (book k (above k i) ≡ Some y)
way_there d book i x zero rooted leaf low = (x, leaf)
way_there d book i x (suc k) rooted leaf low =
    let (y, at) = way_there d book i x k rooted leaf (omega arith) in
    let (left, right, joined) = hung d book k (height_of d - suc k) (above k i) y rooted (omega arith) at in
    (sha256 (left ++ right), joined.joined)

pub way_joined : (d : Descriptor) (book : LookUp) (i k : ℕ) → IsRooted d book → is_some (book 0 i) ≡ true → k < height_of d
    → (left : List ℕ) × (right : List ℕ) × IsJoined book k (above (suc k) i) left right
way_joined d book i k rooted leaf inner =
    let (x, at) = value_of (book 0 i) leaf in
    let (y, here) = way_there d book i x k rooted at (omega arith) in
    hung d book k (height_of d - suc k) (above k i) y rooted (omega arith) here
