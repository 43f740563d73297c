-- What a write elsewhere leaves as it was: slices, known nodes, and chunks that stand.
use Rattle.std.proofs.Common.{◌≡◌, ◌⊎◌, inl, inr, ⊎_elim, ℕ, zero, suc, ◌+◌, ◌-◌, ◌*◌, ◌/◌, ◌%◌, ◌^◌, ◌<◌, ◌≤◌, ◌==◌, nat_eq, nat_le, Bool, true, false, cond, Option, Some, None, List, length, get_or, take, drop, Result, Ok, Err, refl, sym, ◌∙◌, ap, subst, arith}
use Rattle.std.specs.Prelude.{◌&&◌, ◌||◌, is_some}
use Rattle.std.specs.Cmp.Lexicographic.{pointwise}
use Rattle.std.proofs.lemmas.Bool.{cases_lt, cases_eq, cases_Bool, eqb-true, false≢true, and_parts}
use Rattle.std.proofs.lemmas.Bool.Decides.{nat_tests}
use Rattle.std.proofs.lemmas.Grind.{same_number_lists}
use Rattle.std.proofs.lemmas.List.{places, length-take, length-drop, get_or_past}
use Rattle.std.proofs.Math.Nat.{mul-le-mul_left}
use Rattle.std.proofs.lemmas.Nat.{pow_pos}
use Rattle.sha2.specs.Sha256.{sha256}
use Rattle.pp_terms.specs.tree.Content.{chunk_length}
use Rattle.pp_terms.specs.tree.Tree.{above}
use Rattle.pp_terms.specs.tree.Book.{LookUp, has_peaks, has_peaks_below}
use Rattle.pp_terms.specs.format.Descriptor.{Descriptor, chunks_of, height_of, IsDescriptor}
use Rattle.pp_terms.specs.disk.Store.{header, chunk_place, pair_place, gate_place, AreApart, Has}
use Rattle.pp_terms.specs.disk.Image.{slice, half, child, known, known_below, matches, holds, is_open, StandsIn}
use Rattle.pp_terms.specs.disk.Disk.{DiskState, History, IsKnown, IsOver, DoesWrite, Throughout, written, pends}
use Rattle.pp_terms.proofs.Headers.{length-header}
use Rattle.pp_terms.proofs.Heights.{height_is}
use Rattle.pp_terms.proofs.Images.{length-written, written_outside, throughout_write, has_over}
use Rattle.pp_terms.proofs.Facts.{value_of}
use Rattle.pp_terms.proofs.Peaks.{doubled, above_is}
use Rattle.pp_tree.proofs.Sizes.{chunk_size_range, chunk_count_range}
use Rattle.pp_paths.proofs.PeakNodes.{layer_within}
use Rattle.pp_scan.specs.Holding.{is_there}
use Rattle.pp_scan.proofs.Finding.{some_bytes}
use Rattle.pp_store.specs.Pairs.{IsUnfilled}
use Rattle.pp_store.specs.Store.{HoldsIn}

-- ---- one write, done or refused

-- Nothing was done, or a range of these reads is pending.
abbrev pub IsOverOrSame : ℕ → List ℕ → History → History → Type 0
IsOverOrSame place bytes old new =
    (new ≡ old)
    ⊎ ((reads : List ℕ) × IsOver place (length bytes) old.reads reads × (new ≡ record old { reads = reads; epoch = pends old.epoch place bytes }))

pub write_over : {E : Type 0} (old new : DiskState) (place : ℕ) (bytes : List ℕ) (result : Result (Unit {0}) E) → DoesWrite old place bytes result new → IsKnown old
    → IsOverOrSame place bytes old.history new.history
write_over old new place bytes (Ok u) does known = inr (
  written old.history.reads place bytes,
  record {
    no_shorter = omega (arith, length-written old.history.reads place bytes);
    outside = λ k lt outside. written_outside old.history.reads place bytes k outside;
  },
  does.done known,
)
write_over old new place bytes (Err fault) does known = ⊎_elim
    (λ same. inl same)
    (λ (torn, is, e). inr (torn, record { no_shorter = is.no_shorter; outside = λ k lt outside. is.outside k outside }, e))
    (does.refused known)

-- what holds of every image, and survives other bytes in the range
pub throughout_over : (old new : History) (place moment : ℕ) (bytes : List ℕ) (P : List ℕ → Type 0)
    → ((under image : List ℕ) → IsOver place (length bytes) under image → P under → P image)
    → IsOverOrSame place bytes old new → Throughout old moment P → Throughout new moment P
throughout_over old new place moment bytes P survives (inl same) all = subst (λ (h : History). Throughout h moment P) (sym same) all
throughout_over old new place moment bytes P survives (inr (reads, over, is)) all =
    subst (λ (h : History). Throughout h moment P) (sym is) (throughout_write old moment place bytes P survives all)

-- and of what reads give
pub reads_over : (old new : History) (place : ℕ) (bytes : List ℕ) (P : List ℕ → Type 0)
    → ((under image : List ℕ) → IsOver place (length bytes) under image → P under → P image)
    → IsOverOrSame place bytes old new → P old.reads → P new.reads
reads_over old new place bytes P survives (inl same) here = subst (λ (h : History). P h.reads) (sym same) here
reads_over old new place bytes P survives (inr (reads, over, is)) here =
    subst (λ (h : History). P h.reads) (sym is) (survives old.reads reads over here)

pub past_over : (old new : History) (place : ℕ) (bytes : List ℕ) → IsOverOrSame place bytes old new → new.past ≡ old.past
past_over old new place bytes (inl same) = ap (λ (h : History). h.past) same
past_over old new place bytes (inr (reads, over, is)) = ap (λ (h : History). h.past) is

-- ---- what is read elsewhere

pub slice_inside : (reads : List ℕ) (place n : ℕ) → 0 < n → length (slice reads place n) ≡ n → place + n ≤ length reads
slice_inside reads place n some long = omega (arith, length-take n (drop place reads), length-drop place reads)

pub slice_over : (place size at n : ℕ) (under image : List ℕ) → AreApart at n place size → IsOver place size under image → at + n ≤ length under
    → slice image at n ≡ slice under at n
slice_over place size at n under image apart over inside =
    let one : length (slice image at n) ≡ n = length-take n (drop at image) ∙ omega (arith, length-drop at image, over.no_shorter) in
    let two : length (slice under at n) ≡ n = length-take n (drop at under) ∙ omega (arith, length-drop at under) in
    same_number_lists (slice image at n) (slice under at n) (omega (arith, one, two)) (λ k lt.
    let low : k < n = omega arith in
    byte image k low ∙ over.outside (at + k) (omega arith) (λ w. ⊎_elim (λ before. omega (arith, w.0)) (λ behind. omega (arith, w.1)) apart) ∙ sym (byte under k low))
  where
    byte : (bytes : List ℕ) (k : ℕ) → k < n → get_or (take n (drop at bytes)) k 0 ≡ get_or bytes (at + k) 0
    byte bytes k lt = grind (arith, places)

pub there_over : (d : Descriptor) (book : LookUp) (i place size : ℕ) (under image : List ℕ) → 0 < chunk_length d.size d.chunk i
    → AreApart (chunk_place d.chunk i) (chunk_length d.size d.chunk i) place size → IsOver place size under image
    → is_there d under book i ≡ true → is_there d image book i ≡ true
there_over d book i place size under image some apart over there =
    let want = chunk_length d.size d.chunk i in
    let both = and_parts (length (slice under (chunk_place d.chunk i) want) == want) _ there in
    let long : length (slice under (chunk_place d.chunk i) want) ≡ want = eqb-true _ _ both.0 in
    let same = slice_over place size (chunk_place d.chunk i) want under image apart over (slice_inside under (chunk_place d.chunk i) want some long) in
    ap (λ (bytes : List ℕ). (length bytes == want) && matches (book 0 i) (sha256 bytes)) same ∙ there

-- ---- the way from a node up to the root

-- This holds of the pair of each node above node (k, j), n layers of them.
abbrev pub AllUp : (ℕ → ℕ → Type 0) → ℕ → ℕ → ℕ → Type 0
AllUp P zero k j = Unit {0}
AllUp P (suc n) k j = P k (j / 2) × AllUp P n (suc k) (j / 2)

-- the way of a chunk
pub up_way : (P : ℕ → ℕ → Type 0) (h i n k : ℕ) → k + n ≡ h → ((l : ℕ) → l < h → P l (above (suc l) i)) → AllUp P n k (above k i)
up_way P h i zero k top all = tt
up_way P h i (suc n) k top all = (all k (omega arith), up_way P h i n (suc k) (omega arith) all)

-- and of the node behind the full ones of a layer
pub unfilled_up : (d : Descriptor) (k : ℕ) → k < height_of d → above k (chunks_of d) * 2 ^ k < chunks_of d → IsUnfilled d k
unfilled_up d k inner covers =
    let half : above (suc k) (chunks_of d) * 2 ≤ above k (chunks_of d) = omega arith in
    let same : above (suc k) (chunks_of d) * 2 ^ suc k ≡ above (suc k) (chunks_of d) * 2 * 2 ^ k =
    ap (λ (p : ℕ). above (suc k) (chunks_of d) * p) (doubled k) ∙ omega arith in
    let le = mul-le-mul_left (2 ^ k) half in
    record { inner = inner; covers = omega (arith, le) }

pub up_unfilled : (d : Descriptor) (P : ℕ → ℕ → Type 0) (n k : ℕ) → k + n ≡ height_of d → above k (chunks_of d) * 2 ^ k < chunks_of d
    → ((l : ℕ) → IsUnfilled d l → P l (above (suc l) (chunks_of d))) → AllUp P n k (above k (chunks_of d))
up_unfilled d P zero k top covers all = tt
up_unfilled d P (suc n) k top covers all =
    let is = unfilled_up d k (omega arith) covers in
    (all k is, up_unfilled d P n (suc k) (omega arith) is.covers all)

-- the node above a peak that isn't the root
pub above_peak : (d : Descriptor) (k : ℕ) → k < height_of d → above k (chunks_of d) % 2 ≡ 1 → IsUnfilled d k
above_peak d k inner odd =
    let n = chunks_of d in
    let some : 0 < 2 ^ k = pow_pos k in
    let half : above (suc k) n * 2 + 1 ≡ above k n = omega arith in
    let same : above (suc k) n * 2 ^ suc k ≡ above (suc k) n * 2 * 2 ^ k = ap (λ (p : ℕ). above (suc k) n * p) (doubled k) ∙ omega arith in
    let whole : above k n ≡ n / 2 ^ k = above_is k n in
    let e : above k n * 2 ^ k ≡ n / 2 ^ k * 2 ^ k = ap (λ (x : ℕ). x * 2 ^ k) whole in
    let le : n / 2 ^ k * 2 ^ k ≤ n = grind arith in
    let f : above k n * 2 ^ k ≡ (above (suc k) n * 2 + 1) * 2 ^ k = ap (λ (x : ℕ). x * 2 ^ k) (sym half) in
    record { inner = inner; covers = omega arith }

pub up_peak : (d : Descriptor) (P : ℕ → ℕ → Type 0) (n k : ℕ) → k + n ≡ height_of d → above k (chunks_of d) % 2 ≡ 1
    → ((l : ℕ) → IsUnfilled d l → P l (above (suc l) (chunks_of d))) → AllUp P n k (above k (chunks_of d) - 1)
up_peak d P zero k top odd all = tt
up_peak d P (suc n) k top odd all =
    let is = above_peak d k (omega arith) odd in
    let half : above (suc k) (chunks_of d) ≡ (above k (chunks_of d) - 1) / 2 = omega arith in
    subst (λ (j : ℕ). P k j × AllUp P n (suc k) j) half
    (all k is, up_unfilled d P n (suc k) (omega arith) is.covers all)

-- ---- known nodes

known_pair_over : (d : Descriptor) (place size k j : ℕ) (under image : List ℕ) (o : Option (List ℕ)) (x : List ℕ)
    → AreApart (pair_place d.chunk k (j / 2)) 64 place size → IsOver place size under image
    → child (slice under (pair_place d.chunk k (j / 2)) 64) j o ≡ Some x
    → child (slice image (pair_place d.chunk k (j / 2)) 64) j o ≡ Some x
known_pair_over d place size k j under image None x apart over is = absurd cc
known_pair_over d place size k j under image (Some digest) x apart over is =
    let both = slice under (pair_place d.chunk k (j / 2)) 64 in
    ⊎_elim
    (λ whole.
    let test = and_parts (length both == 64) (pointwise nat_eq (sha256 both) digest) whole in
    let inside = slice_inside under (pair_place d.chunk k (j / 2)) 64 (omega arith) (eqb-true _ _ test.0) in
    ap (λ (bytes : List ℕ). child bytes j (Some digest)) (slice_over place size (pair_place d.chunk k (j / 2)) 64 under image apart over inside) ∙ is)
    (λ part. absurd (let none : child both j (Some digest) ≡ None = ap (λ (b : Bool). cond b (Some (half j both)) None) part in cc))
    (cases_Bool ((length both == 64) && pointwise nat_eq (sha256 both) digest))

parent_over : (d : Descriptor) (place size k j : ℕ) (under image : List ℕ) (x : List ℕ) (above_under above_image o : Option (List ℕ))
    → AreApart (pair_place d.chunk k (j / 2)) 64 place size → IsOver place size under image → above_under ≡ o
    → ((y : List ℕ) → above_under ≡ Some y → above_image ≡ Some y)
    → child (slice under (pair_place d.chunk k (j / 2)) 64) j above_under ≡ Some x
    → child (slice image (pair_place d.chunk k (j / 2)) 64) j above_image ≡ Some x
parent_over d place size k j under image x above_under above_image None here over at up it =
    absurd (let e = ap (λ (p : Option (List ℕ)). child (slice under (pair_place d.chunk k (j / 2)) 64) j p) at in cc)
parent_over d place size k j under image x above_under above_image (Some y) here over at up it =
    ap (λ (p : Option (List ℕ)). child (slice image (pair_place d.chunk k (j / 2)) 64) j p) (up y at)
    ∙ known_pair_over d place size k j under image (Some y) x here over
    (ap (λ (p : Option (List ℕ)). child (slice under (pair_place d.chunk k (j / 2)) 64) j p) (sym at) ∙ it)

pub known_below_over : (d : Descriptor) (place size : ℕ) (under image : List ℕ) (n k j : ℕ) (x : List ℕ) → k + n ≡ height_of d
    → AllUp (λ l i. AreApart (pair_place d.chunk l i) 64 place size) n k j → IsOver place size under image
    → known_below d under n j ≡ Some x → known_below d image n j ≡ Some x
known_below_over d place size under image zero k j x top apart over is = is
known_below_over d place size under image (suc n) k j x top (here, up) over is =
    let at : height_of d - suc n ≡ k = omega arith in
    let is' : child (slice under (pair_place d.chunk k (j / 2)) 64) j (known_below d under n (j / 2)) ≡ Some x =
    ap (λ (l : ℕ). child (slice under (pair_place d.chunk l (j / 2)) 64) j (known_below d under n (j / 2))) (sym at) ∙ is in
    ap (λ (l : ℕ). child (slice image (pair_place d.chunk l (j / 2)) 64) j (known_below d image n (j / 2))) at
    ∙ parent_over d place size k j under image x (known_below d under n (j / 2)) (known_below d image n (j / 2)) (known_below d under n (j / 2)) here over refl
    (λ y some. known_below_over d place size under image n (suc k) (j / 2) y (omega arith) up over some) is'

pub known_at : (d : Descriptor) (image : List ℕ) (k j : ℕ) → k ≤ height_of d → known d image k j ≡ known_below d image (height_of d - k) j
known_at d image k j low =
    let test : nat_le k (height_of d) ≡ true = grind (arith, nat_tests) in
    ap (λ (b : Bool). cond {A = Option (List ℕ)} b (known_below d image (height_of d - k) j) None) test

-- ---- peaks

pub peak_in : (book : LookUp) (n m k : ℕ) → has_peaks_below book n m ≡ true → k < m → above k n % 2 ≡ 1 → is_some (book k (above k n - 1)) ≡ true
peak_in book n zero k all lt odd = absurd (omega arith)
peak_in book n (suc m) k all lt odd =
    let both = and_parts (above m n % 2 == 0 || is_some (book m (above m n - 1))) (has_peaks_below book n m) all in
    ⊎_elim
    (λ below. peak_in book n m k both.1 below odd)
    (λ last.
    let e : m ≡ k = omega arith in
    let odd' : above m n % 2 ≡ 1 = ap (λ (l : ℕ). above l n % 2) e ∙ odd in
    let test : (above m n % 2 == 0) ≡ false = grind (arith, nat_tests) in
    let here : is_some (book m (above m n - 1)) ≡ true = ap (λ (b : Bool). b || is_some (book m (above m n - 1))) (sym test) ∙ both.0 in
    ap (λ (l : ℕ). is_some (book l (above l n - 1))) (sym e) ∙ here)
    (cases_lt k m)

pub peaks_in : (book : LookUp) (n m : ℕ) → ((k : ℕ) → k < m → above k n % 2 ≡ 1 → is_some (book k (above k n - 1)) ≡ true) → has_peaks_below book n m ≡ true
peaks_in book n zero each = refl
peaks_in book n (suc m) each =
    let rest : has_peaks_below book n m ≡ true = peaks_in book n m (λ k lt. each k (omega arith)) in
    let one : (above m n % 2 == 0 || is_some (book m (above m n - 1))) ≡ true = ⊎_elim
    (λ even. let test : (above m n % 2 == 0) ≡ true = grind (arith, nat_tests) in ap (λ (b : Bool). b || is_some (book m (above m n - 1))) test)
    (λ odd. let test : (above m n % 2 == 0) ≡ false = grind (arith, nat_tests) in
    ap (λ (b : Bool). b || is_some (book m (above m n - 1))) test ∙ each m (omega arith) (omega arith))
    (cases_eq (above m n % 2) 0) in
    ap (λ (b : Bool). b && has_peaks_below book n m) one ∙ rest

-- ---- a chunk that stands

pub some_chunks : (d : Descriptor) → IsDescriptor d → (0 < chunks_of d) × (chunks_of d ≤ 2 ^ 20)
some_chunks d valid = let range = chunk_size_range d.chunk valid.chunk_size in chunk_count_range d.size d.chunk (omega arith) valid.content_size

pub covers_all : (d : Descriptor) → IsDescriptor d → chunks_of d ≤ 2 ^ height_of d
covers_all d valid = let range = some_chunks d valid in (height_is (chunks_of d) range.0 range.1).covers

-- a peak's layer
pub peak_low : (d : Descriptor) (k : ℕ) → IsDescriptor d → above k (chunks_of d) % 2 ≡ 1 → k ≤ height_of d
peak_low d k valid odd = layer_within (chunks_of d) k (height_of d) (covers_all d valid) (omega arith)

-- The range lies apart from all that chunk i needs.
pub record IsClear (d : Descriptor) (i place size : ℕ) : Type 0 where
  pub behind : 64 ≤ place
  pub chunk : AreApart (chunk_place d.chunk i) (chunk_length d.size d.chunk i) place size
  pub way : (k : ℕ) → k < height_of d → AreApart (pair_place d.chunk k (above (suc k) i)) 64 place size
  pub unfilled : (k : ℕ) → IsUnfilled d k → AreApart (pair_place d.chunk k (above (suc k) (chunks_of d))) 64 place size

pub header_over : (d : Descriptor) (place size : ℕ) (under image : List ℕ) → IsDescriptor d → 64 ≤ place → IsOver place size under image
    → Has 0 (header d) under → Has 0 (header d) image
header_over d place size under image valid far over has =
    has_over place size 0 (header d) under image (inl (omega (arith, length-header d valid.root_length))) over has

-- a chunk that is held elsewhere
pub held_elsewhere : (d : Descriptor) (i place size : ℕ) (under image : List ℕ) → IsDescriptor d → i < chunks_of d
    → AreApart (chunk_place d.chunk i) (chunk_length d.size d.chunk i) place size
    → ((k : ℕ) → k < height_of d → AreApart (pair_place d.chunk k (above (suc k) i)) 64 place size)
    → ((k : ℕ) → IsUnfilled d k → AreApart (pair_place d.chunk k (above (suc k) (chunks_of d))) 64 place size)
    → IsOver place size under image → holds d under i ≡ true → holds d image i ≡ true
held_elsewhere d i place size under image valid within chunk way unfilled over stands =
    let want = chunk_length d.size d.chunk i in
    let bytes = slice under (chunk_place d.chunk i) want in
    let tests = and_parts (has_peaks (known d under) (chunks_of d) && (length bytes == want)) (matches (known d under 0 i) (sha256 bytes)) stands in
    let front = and_parts (has_peaks (known d under) (chunks_of d)) (length bytes == want) tests.0 in
    let some = some_bytes d i valid within in
    let same : slice image (chunk_place d.chunk i) want ≡ bytes =
    slice_over place size (chunk_place d.chunk i) want under image chunk over (slice_inside under (chunk_place d.chunk i) want some (eqb-true _ _ front.1)) in
    let peaks : has_peaks (known d image) (chunks_of d) ≡ true = peaks_in (known d image) (chunks_of d) 21 (λ k lt odd.
    let low = peak_low d k valid odd in
    let up : AllUp (λ l j. AreApart (pair_place d.chunk l j) 64 place size) (height_of d - k) k (above k (chunks_of d) - 1) =
    up_peak d (λ l j. AreApart (pair_place d.chunk l j) 64 place size) (height_of d - k) k (omega arith) odd unfilled in
    kept k (above k (chunks_of d) - 1) low up (peak_in (known d under) (chunks_of d) 21 k front.0 lt odd)) in
    let leaf : matches (known d image 0 i) (sha256 (slice image (chunk_place d.chunk i) want)) ≡ true =
    ap (λ (x : List ℕ). matches (known d image 0 i) (sha256 x)) same ∙ leaf_kept (sha256 bytes) tests.1 in
    let length_kept : (length (slice image (chunk_place d.chunk i) want) == want) ≡ true = ap (λ (x : List ℕ). length x == want) same ∙ front.1 in
    (λ t. peaks t && length_kept t && leaf t)
  where
    kept : (k j : ℕ) → k ≤ height_of d → AllUp (λ l m. AreApart (pair_place d.chunk l m) 64 place size) (height_of d - k) k j
        → is_some (known d under k j) ≡ true → is_some (known d image k j) ≡ true
    kept k j low up some =
        let (x, at) = value_of (known d under k j) some in
        let here : known_below d under (height_of d - k) j ≡ Some x = sym (known_at d under k j low) ∙ at in
        ap (λ (o : Option (List ℕ)). is_some o)
        (known_at d image k j low ∙ known_below_over d place size under image (height_of d - k) k j x (omega arith) up over here)

    leaf_known : (digest : List ℕ) → AllUp (λ l m. AreApart (pair_place d.chunk l m) 64 place size) (height_of d) 0 i
        → (o : Option (List ℕ)) → known d under 0 i ≡ o → matches (known d under 0 i) digest ≡ true → matches (known d image 0 i) digest ≡ true
    leaf_known digest up None none is = absurd (false≢true (ap (λ (o : Option (List ℕ)). matches o digest) (sym none) ∙ is))
    leaf_known digest up (Some x) at is =
        let whole : height_of d - 0 ≡ height_of d = omega arith in
        let here : known_below d under (height_of d) i ≡ Some x = ap (λ (n : ℕ). known_below d under n i) (sym whole) ∙ sym (known_at d under 0 i (omega arith)) ∙ at in
        let there : known d image 0 i ≡ Some x = known_at d image 0 i (omega arith) ∙ ap (λ (n : ℕ). known_below d image n i) whole
        ∙ known_below_over d place size under image (height_of d) 0 i x (omega arith) up over here in
        ap (λ (o : Option (List ℕ)). matches o digest) (there ∙ sym at) ∙ is

    leaf_kept : (digest : List ℕ) → matches (known d under 0 i) digest ≡ true → matches (known d image 0 i) digest ≡ true
    leaf_kept digest is =
        let up : AllUp (λ l m. AreApart (pair_place d.chunk l m) 64 place size) (height_of d) 0 i =
        up_way (λ l m. AreApart (pair_place d.chunk l m) 64 place size) (height_of d) i (height_of d) 0 (omega arith) way in
        leaf_known digest up (known d under 0 i) refl is

pub holds_over : (d : Descriptor) (i place size : ℕ) (under image : List ℕ) → IsDescriptor d → IsClear d i place size → IsOver place size under image
    → HoldsIn d under i → HoldsIn d image i
holds_over d i place size under image valid clear over stands = record {
  begins = header_over d place size under image valid clear.behind over stands.begins;
  within = stands.within;
  held = sym (sym (held_elsewhere d i place size under image valid stands.within clear.chunk clear.way clear.unfilled over (sym (sym stands.held))));
}

-- a gate elsewhere stays open
pub open_over : (d : Descriptor) (i place size : ℕ) (under image : List ℕ) → AreApart (gate_place d.chunk i) 1 place size → IsOver place size under image
    → is_open d under i ≡ true → is_open d image i ≡ true
open_over d i place size under image apart over is =
    let value : get_or under (gate_place d.chunk i) 0 ≡ 79 = eqb-true _ _ is in
    let inside : gate_place d.chunk i < length under = ⊎_elim
    (λ low. low)
    (λ past. absurd (let zero = get_or_past under (gate_place d.chunk i) 0 past in omega (arith, zero, value)))
    (cases_lt (gate_place d.chunk i) (length under)) in
    ap (λ (b : ℕ). b == 0x4f) (over.outside (gate_place d.chunk i) inside (λ w. ⊎_elim (λ before. omega (arith, w.0)) (λ behind. omega (arith, w.1)) apart)) ∙ is

pub stands_over : (d : Descriptor) (i place size : ℕ) (under image : List ℕ) → IsDescriptor d → IsClear d i place size → AreApart (gate_place d.chunk i) 1 place size
    → IsOver place size under image → StandsIn d under i → StandsIn d image i
stands_over d i place size under image valid clear apart over stands =
    let held = holds_over d i place size under image valid clear over (record { begins = stands.begins; within = stands.within; held = stands.held }) in
    record {
      begins = held.begins;
      within = held.within;
      opened = sym (sym (open_over d i place size under image apart over (sym (sym stands.opened))));
      held = held.held;
    }
