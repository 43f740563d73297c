-- Whether what is claimed proves a chunk, part by part.
use Rattle.std.proofs.Common.{◌≡◌, ⊎_elim, ℕ, zero, suc, ◌+◌, ◌-◌, ◌*◌, ◌/◌, ◌%◌, ◌^◌, ◌<◌, ◌≤◌, eqb, ltb, Bool, true, false, cond, ◌&&◌, ◌||◌, Option, Some, None, List, [], ◌∷◌, length, refl, sym, ◌∙◌, ap, arith, add-one}
use Rattle.std.specs.Prelude.{is_some, is_none, option_and_then}
use Rattle.std.specs.List.{list_all, find}
use Rattle.std.proofs.lemmas.Bool.{and_parts, and_from, lt-ltb, eqb-true, eq-eqb, cases_lt, cases_Bool}
use Rattle.std.proofs.lemmas.Nat.{pow_pos}
use Rattle.std.proofs.Math.Pow.{pow_mono}
use Rattle.std.proofs.lemmas.Slice.Eq.{bytes_eq-Decides}
use Rattle.std.proofs.Math.Nat.{div-lt_iff_lt-mul}
use Rattle.sha2.specs.Sha256.{sha256}
use Rattle.pp_terms.specs.format.Descriptor.{Descriptor, chunks_of, height_of}
use Rattle.pp_terms.specs.tree.Book.{LookUp}
use Rattle.pp_terms.specs.tree.Content.{chunk_length}
use Rattle.pp_terms.specs.tree.Proves.{joined, climbed, first_absent, last_layer, peak_offset}
use Rattle.pp_terms.specs.tree.Bins.{sibling}
use Rattle.pp_terms.specs.tree.Tree.{Node, above, peaks, is_peak}
use Rattle.pp_terms.proofs.Peaks.{peak_found, peak_from, above_is}
use Rattle.pp_recorded.specs.Search.{some_below}
use Rattle.pp_recorded.specs.Provings.{is_same, has_peaks, leads_at, leads_up, climbed_last, leads_to_root, ProvesIsTested}
use Rattle.pp_recorded.proofs.Searches.{below_found, found_below}

-- ---- a climb, layer by layer

pub climbed_more : (known : LookUp) (left k k' j j' : ℕ) (digest other next : List ℕ) → 0 < left → known k (sibling j) ≡ Some other → k' ≡ k + 1 → j' ≡ j / 2
    → next ≡ sha256 (joined j digest other) → climbed known left k j digest ≡ climbed known (left - 1) k' j' next
climbed_more known left k k' j j' digest other next some is up half next_is =
    ap (λ (n : ℕ). climbed known n k j digest) (let e : left ≡ suc (left - 1) = omega arith in e)
    ∙ ap (λ (o : Option (List ℕ)). option_and_then (λ x. climbed known (left - 1) (suc k) (j / 2) (sha256 (joined j digest x))) o) is
    ∙ ap (λ (l : ℕ). climbed known (left - 1) l (j / 2) (sha256 (joined j digest other))) (let e : suc k ≡ k' = omega arith in e)
    ∙ ap (λ (i : ℕ). climbed known (left - 1) k' i (sha256 (joined j digest other))) (sym half)
    ∙ ap (λ (x : List ℕ). climbed known (left - 1) k' j' x) (sym next_is)

pub climbed_none : (known : LookUp) (left k j : ℕ) (digest : List ℕ) → 0 < left → known k (sibling j) ≡ None → None ≡ climbed known left k j digest
climbed_none known left k j digest some none =
    sym (ap (λ (n : ℕ). climbed known n k j digest) (let e : left ≡ suc (left - 1) = omega arith in e)
    ∙ ap (λ (o : Option (List ℕ)). option_and_then (λ x. climbed known (left - 1) (suc k) (j / 2) (sha256 (joined j digest x))) o) none)

pub climbed_end : (known : LookUp) (left k j : ℕ) (digest : List ℕ) → left ≤ 0 → Some digest ≡ climbed known left k j digest
climbed_end known zero k j digest le = refl
climbed_end known (suc left) k j digest le = absurd (omega arith)

-- ---- digests that are the same

same_is : (x y : Option (List ℕ)) → is_same x y ≡ true → x ≡ y
same_is None None e = refl
same_is None (Some y) e = absurd cc
same_is (Some x) None e = absurd cc
same_is (Some x) (Some y) e = ap (λ (z : List ℕ). Some z) ((bytes_eq-Decides x y).0 e)

is_itself : (x : Option (List ℕ)) → is_same x x ≡ true
is_itself None = refl
is_itself (Some x) = (bytes_eq-Decides x x).1 refl

is_same_from : (x y : Option (List ℕ)) → x ≡ y → is_same x y ≡ true
is_same_from x y e = ap (λ (z : Option (List ℕ)). is_same x z) (sym e) ∙ is_itself x

-- ---- the peaks

none_absent : (known : LookUp) (xs : List Node) → find (λ at. is_none (known at.layer at.offset)) xs ≡ None → list_all (λ p. is_some (known p.layer p.offset)) xs ≡ true
none_absent known [] e = refl
none_absent known (x ∷ xs) e = by (λ f. none_absent known xs f) (known x.layer x.offset) e
  where
    by : (find (λ at. is_none (known at.layer at.offset)) xs ≡ None → list_all (λ p. is_some (known p.layer p.offset)) xs ≡ true) → (o : Option (List ℕ))
        → cond (is_none o) (Some x) (find (λ at. is_none (known at.layer at.offset)) xs) ≡ None → (is_some o && list_all (λ p. is_some (known p.layer p.offset)) xs) ≡ true
    by more None f = absurd cc
    by more (Some y) f = more f

all_there : (known : LookUp) (xs : List Node) → list_all (λ p. is_some (known p.layer p.offset)) xs ≡ true → find (λ at. is_none (known at.layer at.offset)) xs ≡ None
all_there known [] e = refl
all_there known (x ∷ xs) e = by (λ f. all_there known xs f) (known x.layer x.offset) e
  where
    by : (list_all (λ p. is_some (known p.layer p.offset)) xs ≡ true → find (λ at. is_none (known at.layer at.offset)) xs ≡ None) → (o : Option (List ℕ))
        → (is_some o && list_all (λ p. is_some (known p.layer p.offset)) xs) ≡ true → cond (is_none o) (Some x) (find (λ at. is_none (known at.layer at.offset)) xs) ≡ None
    by more None f = absurd cc
    by more (Some y) f = more f

peaks_known : (known : LookUp) (n : ℕ) → has_peaks n known ≡ true → first_absent known n ≡ None
unfolding first_absent
peaks_known known n e = all_there known (peaks n) e

known_peaks : (known : LookUp) (n : ℕ) → first_absent known n ≡ None → has_peaks n known ≡ true
unfolding first_absent
known_peaks known n e = none_absent known (peaks n) e

-- ---- the peak above a chunk

-- a peak above a chunk lies in a low layer
top_low : (n top : ℕ) → n ≤ 2 ^ 20 → above top n % 2 ≡ 1 → top < 21
top_low n top few odd = ⊎_elim
    (λ low. low)
    (λ high.
    let wide : 2 ^ 21 ≤ 2 ^ top = pow_mono high in
    let none : n / 2 ^ top < 1 = (div-lt_iff_lt-mul (pow_pos top)).1 (omega (arith, few, wide)) in
    absurd (let is = above_is top n in omega (arith, odd, none, is)))
    (cases_lt top 21)

leads_of : (n : ℕ) (known : LookUp) (i top : ℕ) (digest : List ℕ) → leads_at n known i digest top ≡ true
    → (above top n % 2 ≡ 1) × (above top i ≡ peak_offset top n) × (climbed known top 0 i digest ≡ known top (peak_offset top n))
leads_of n known i top digest e =
    let parts = and_parts (is_peak n (record { layer = top; offset = i / 2 ^ top })) (is_same (climbed known top 0 i digest) (known top (i / 2 ^ top))) e in
    let found = peak_found n (record { layer = top; offset = i / 2 ^ top }) parts.0 in
    let last : above top n ≡ i / 2 ^ top + 1 = found.2 in
    let even : i / 2 ^ top % 2 ≡ 0 = found.1 in
    let below : above top i ≡ peak_offset top n = (let is = above_is top i in omega (arith, last, is)) in (
      omega (arith, last, even),
      below,
      same_is (climbed known top 0 i digest) (known top (i / 2 ^ top)) parts.1 ∙ ap (λ (j : ℕ). known top j) (sym (above_is top i) ∙ below),
    )

of_leads : (n : ℕ) (known : LookUp) (i top : ℕ) (digest : List ℕ) → n ≤ 2 ^ 20 → above top n % 2 ≡ 1 → above top i ≡ peak_offset top n
    → climbed known top 0 i digest ≡ known top (peak_offset top n) → leads_at n known i digest top ≡ true
of_leads n known i top digest few odd below to =
    let is = above_is top i in
    let at : i / 2 ^ top ≡ peak_offset top n = sym is ∙ below in
    and_from (is_peak n (record { layer = top; offset = i / 2 ^ top })) (is_same (climbed known top 0 i digest) (known top (i / 2 ^ top)))
    (peak_from n (record { layer = top; offset = i / 2 ^ top }) (top_low n top few odd) (omega (arith, odd, at)) (omega (arith, odd, at)))
    (is_same_from (climbed known top 0 i digest) (known top (i / 2 ^ top)) (to ∙ ap (λ (j : ℕ). known top j) (sym at)))

-- a chunk below a peak is one of the content
below_all : (n i top : ℕ) → above top n % 2 ≡ 1 → above top i ≡ peak_offset top n → i < n
below_all n i top odd below =
    let some = pow_pos top in
    let is = above_is top i in
    let all = above_is top n in
    let less : i / 2 ^ top < n / 2 ^ top = omega (arith, odd, below, is, all) in
    ⊎_elim
    (λ lt. lt)
    (λ le.
    let more : n / 2 ^ top < i / 2 ^ top + 1 = (div-lt_iff_lt-mul some).1 (past i (2 ^ top) n some le) in
    absurd (omega (arith, less, more)))
    (cases_lt i n)
  where
    past : (i p n : ℕ) → 0 < p → n ≤ i → n < (i / p + 1) * p
    past i p n some le =
        let lt : i < (i / p + 1) * p = (div-lt_iff_lt-mul some).0 (let e : i / p < i / p + 1 = omega arith in e) in omega (arith, le, lt)

-- ---- the whole

pub proves_is_tested : ProvesIsTested
unfolding leads_up
proves_is_tested d known i bytes few digests =
    let within = ltb i (chunks_of d) in
    let whole = eqb (length bytes) (chunk_length d.size d.chunk i) in
    let all = has_peaks (chunks_of d) known in
    let up = leads_up (chunks_of d) known i (sha256 bytes) in
    let root = leads_to_root d known in (
      λ e.
          let a = and_parts whole (all && (up && root)) (and_parts within (whole && (all && (up && root))) e).1 in
          let b = and_parts all (up && root) a.1 in
          let f = and_parts up root b.1 in
          let found = below_found (leads_at (chunks_of d) known i (sha256 bytes)) 21 f.0 in
          let leads = leads_of (chunks_of d) known i found.0 (sha256 bytes) found.2 in
          record {
            whole = eqb-true (length bytes) (chunk_length d.size d.chunk i) a.0;
            digests = digests;
            peaks_known = peaks_known known (chunks_of d) b.0;
            top = found.0;
            has_peak = leads.0;
            below_it = leads.1;
            to_peak = leads.2;
            to_root = same_is (climbed_last (chunks_of d) known (height_of d - last_layer (chunks_of d))) (Some d.root) f.1;
          },
      λ p.
          and_from within (whole && (all && (up && root))) (lt-ltb i (chunks_of d) (below_all (chunks_of d) i p.top p.has_peak p.below_it))
          (and_from whole (all && (up && root)) (eq-eqb (length bytes) (chunk_length d.size d.chunk i) p.whole)
          (and_from all (up && root) (known_peaks known (chunks_of d) p.peaks_known)
          (and_from up root
          (found_below (leads_at (chunks_of d) known i (sha256 bytes)) 21 p.top (top_low (chunks_of d) p.top few p.has_peak)
          (of_leads (chunks_of d) known i p.top (sha256 bytes) few p.has_peak p.below_it p.to_peak))
          (is_same_from (climbed_last (chunks_of d) known (height_of d - last_layer (chunks_of d))) (Some d.root) p.to_root)))),
    )

-- ---- by the code

-- one number more, and all of them
pub below_more : (test : ℕ → Bool) (n : ℕ) (b found : Bool) → b ≡ test n → found ≡ some_below test n → (b || found) ≡ some_below test (n + 1)
below_more test n b found is so_far =
    ap (λ (x : Bool). x || found) is ∙ ap (λ (x : Bool). test n || x) so_far ∙ ap (λ (m : ℕ). some_below test m) (sym (add-one n))

pub below_end : (test : ℕ → Bool) (n end : ℕ) (found : Bool) → found ≡ some_below test n → n ≡ end → found ≡ some_below test end
below_end test n end found so_far is = so_far ∙ ap (λ (m : ℕ). some_below test m) is

pub leads_from : (n few : ℕ) (known : LookUp) (i top : ℕ) (digest : List ℕ) (peak result : Bool) (reached claimed : Option (List ℕ)) → few ≡ n
    → peak ≡ is_peak few (record { layer = top; offset = i / 2 ^ top }) → peak ≡ true → reached ≡ climbed known top 0 i digest → claimed ≡ known top (i / 2 ^ top)
    → result ≡ is_same reached claimed → result ≡ leads_at n known i digest top
leads_from n few known i top digest peak result reached claimed same peak_is is reached_is claimed_is e =
    e ∙ ap (λ (x : Option (List ℕ)). is_same x claimed) reached_is ∙ ap (λ (x : Option (List ℕ)). is_same (climbed known top 0 i digest) x) claimed_is
    ∙ ap (λ (b : Bool). b && is_same (climbed known top 0 i digest) (known top (i / 2 ^ top)))
    (sym (ap (λ (m : ℕ). is_peak m (record { layer = top; offset = i / 2 ^ top })) (sym same) ∙ sym peak_is ∙ is))

pub leads_not : (n few : ℕ) (known : LookUp) (i top : ℕ) (digest : List ℕ) (peak : Bool) → few ≡ n
    → peak ≡ is_peak few (record { layer = top; offset = i / 2 ^ top }) → peak ≡ false → false ≡ leads_at n known i digest top
leads_not n few known i top digest peak same peak_is is =
    ap (λ (b : Bool). b && is_same (climbed known top 0 i digest) (known top (i / 2 ^ top)))
    (sym (ap (λ (m : ℕ). is_peak m (record { layer = top; offset = i / 2 ^ top })) (sym same) ∙ sym peak_is ∙ is))

pub root_from : (d : Descriptor) (known : LookUp) (result : Bool) (reached : Option (List ℕ)) (root : List ℕ) (layers h l few : ℕ) → result ≡ is_same reached (Some root) → root ≡ d.root
    → reached ≡ climbed_last (chunks_of d) known layers → layers ≡ h - l → h ≡ height_of d → l ≡ last_layer few → few ≡ chunks_of d → result ≡ leads_to_root d known
root_from d known result reached root layers h l few e root_is reached_is layers_is h_is l_is few_is =
    e ∙ ap (λ (x : List ℕ). is_same reached (Some x)) root_is
    ∙ ap (λ (x : Option (List ℕ)). is_same x (Some d.root)) reached_is
    ∙ ap (λ (m : ℕ). is_same (climbed_last (chunks_of d) known m) (Some d.root))
    (layers_is ∙ ap (λ (m : ℕ). m - l) h_is ∙ ap (λ (m : ℕ). height_of d - m) (l_is ∙ ap (λ (m : ℕ). last_layer m) few_is))

pub other_length : (n m want : ℕ) (b : Bool) → (n ≡ want → ⊥) → want ≡ m → eqb n want ≡ (eqb n m && b)
other_length n m want b other is = ⊎_elim
    (λ same. absurd (other (eqb-true n want same)))
    (λ apart. apart ∙ sym (ap (λ (x : Bool). x && b) (ap (λ (z : ℕ). eqb n z) (sym is) ∙ apart)))
    (cases_Bool (eqb n want))
