-- One extent more among sorted ones.
use Rattle.std.proofs.Common.{◌≡◌, ◌⊎◌, inl, inr, ℕ, suc, ◌+◌, ◌<◌, ◌≤◌, Bool, true, false, ◌||◌, List, [], ◌∷◌, ◌++◌, length, get_or, take, drop, refl, sym, ◌∙◌, ap, arith}
use Rattle.std.proofs.Math.Bool.{or_comm}
use Rattle.std.proofs.lemmas.Bool.{cases_lt, lt-ltb, le-ltb, le-leb, lt-leb}
use Rattle.std.proofs.lemmas.Bool.Decides.{nat_tests}
use Rattle.std.specs.Prelude.{insert}
use Rattle.std.proofs.lemmas.List.{drop_more, take_at, drop_at, length-take-le, length-drop, length-append}
use Rattle.pp_adapt.specs.declared.extents.Extent.{Extent}
use Rattle.pp_adapt.specs.declared.extents.TheConstants.{WINDOW}
use Rattle.pp_adapt.specs.Extents.{AreApart, is_in, is_covered, ended_before, hull, whole_of, rest_of, joined_at, joined}

-- what a read past the end would give
abbrev pub nothing : Extent
nothing = record { start = 0; end = 0 }

pub later_apart : (low lower : ℕ) (es : List Extent) → lower ≤ low → AreApart low es → AreApart lower es
later_apart low lower [] le apart = tt
later_apart low lower (e ∷ es) le apart = (omega arith, apart.1, apart.2, apart.3)

-- the first of them doesn't end before a new one begins
abbrev Reaches : Extent → List Extent → Type 0
Reaches n [] = Unit {0}
Reaches n (e ∷ es) = n.start ≤ e.end

reaches_on : (n e : Extent) (es : List Extent) → n.start ≤ e.end → AreApart (suc e.end) es → Reaches (hull n e) es
reaches_on n e [] le apart = tt
reaches_on n e (d ∷ ds) le apart = let first : suc e.end ≤ d.start = apart.0 in let some : d.start < d.end = apart.1 in omega arith

in_hull : (n e : Extent) (k : ℕ) → e.start ≤ n.end → n.start ≤ e.end → is_in (hull n e) k ≡ (is_in n k || is_in e k)
in_hull n e k a b = grind (arith, nat_tests)

or_regroup : (a b c : Bool) → ((a || b) || c) ≡ (a || (b || c))
or_regroup true b c = refl
or_regroup false b c = refl

pub swallowed_apart : (low : ℕ) (es : List Extent) (n : Extent) → AreApart low es → low ≤ n.start → n.start < n.end → n.end ≤ WINDOW → AreApart low (whole_of es n ∷ rest_of es n)
swallowed_apart low [] n apart a b c = (a, b, c, tt)
swallowed_apart low (e ∷ es) n apart a b c = elim (cases_lt n.end e.start) [
  | inl after ↦ rw (lt-leb e.start n.end after) (a, b, c, (omega arith, apart.1, apart.2, apart.3))
  | inr met ↦ rw (le-leb e.start n.end met) (swallowed_apart low es (hull n e) (later_apart (suc e.end) low es (omega (arith, apart.0, apart.1)) apart.3) (omega (arith, apart.0)) (omega arith) (omega (arith, apart.2)))
]

pub swallowed_covers : (low : ℕ) (es : List Extent) (n : Extent) (k : ℕ) → AreApart low es → Reaches n es → is_covered (whole_of es n ∷ rest_of es n) k ≡ (is_in n k || is_covered es k)
swallowed_covers low [] n k apart reaches = refl
swallowed_covers low (e ∷ es) n k apart reaches = elim (cases_lt n.end e.start) [
  | inl after ↦ rw (lt-leb e.start n.end after) refl
  | inr met ↦ rw (le-leb e.start n.end met)
      (swallowed_covers (suc e.end) es (hull n e) k apart.3 (reaches_on n e es reaches apart.3)
      ∙ ap (λ (b : Bool). b || is_covered es k) (in_hull n e k met reaches)
      ∙ or_regroup (is_in n k) (is_in e k) (is_covered es k))
]

pub joined_apart : (low : ℕ) (es : List Extent) (n : Extent) → AreApart low es → low ≤ n.start → n.start < n.end → n.end ≤ WINDOW → AreApart low (joined es n)
joined_apart low [] n apart a b c = (a, b, c, tt)
joined_apart low (e ∷ es) n apart a b c = elim (cases_lt e.end n.start) [
  | inl before ↦ rw (lt-ltb e.end n.start before) (apart.0, apart.1, apart.2, joined_apart (suc e.end) es n apart.3 (omega arith) b c)
  | inr met ↦ rw (le-ltb e.end n.start met) (swallowed_apart low (e ∷ es) n apart a b c)
]

pub joined_covers : (low : ℕ) (es : List Extent) (n : Extent) (k : ℕ) → AreApart low es → is_covered (joined es n) k ≡ (is_in n k || is_covered es k)
joined_covers low [] n k apart = refl
joined_covers low (e ∷ es) n k apart = elim (cases_lt e.end n.start) [
  | inl before ↦ rw (lt-ltb e.end n.start before)
      (ap (λ (b : Bool). is_in e k || b) (joined_covers (suc e.end) es n k apart.3) ∙ sym (or_regroup (is_in e k) (is_in n k) (is_covered es k))
      ∙ ap (λ (b : Bool). b || is_covered es k) (or_comm (is_in e k) (is_in n k)) ∙ or_regroup (is_in n k) (is_in e k) (is_covered es k))
  | inr met ↦ rw (le-ltb e.end n.start met) (swallowed_covers low (e ∷ es) n k apart met)
]

pub rest_no_longer : (es : List Extent) (n : Extent) → length (rest_of es n) ≤ length es
rest_no_longer [] n = omega arith
rest_no_longer (e ∷ es) n = elim (cases_lt n.end e.start) [
  | inl after ↦ rw (lt-leb e.start n.end after) (omega arith)
  | inr met ↦ rw (le-leb e.start n.end met) (omega (arith, rest_no_longer es (hull n e)))
]

-- what stays of the extents, where the one at a place is met
pub rest_shorter : (es : List Extent) (at : ℕ) (n d : Extent) → at < length es → (get_or es at d).start ≤ n.end → at + length (rest_of (drop at es) n) < length es
rest_shorter es at n d within met =
    rw (drop_more es at d within)
    (rw (le-leb (get_or es at d).start n.end met)
    (omega (arith, rest_no_longer (drop (at + 1) es) (hull n (get_or es at d)), length-drop (at + 1) es)))

pub ended_before_bound : (start : ℕ) (es : List Extent) → ended_before start es ≤ length es
ended_before_bound start [] = omega arith
ended_before_bound start (e ∷ es) = elim (cases_lt e.end start) [
  | inl before ↦ rw (lt-ltb e.end start before) (omega (arith, ended_before_bound start es))
  | inr met ↦ rw (le-ltb e.end start met) (omega arith)
]

-- An insertion of what the extents met cover among the others.
pub inserted_is : (es taken : List Extent) (n whole : Extent) (at : ℕ) → at ≤ length es
    → taken ≡ take at es ++ rest_of (drop at es) n → whole ≡ whole_of (drop at es) n → insert taken at whole ≡ joined_at at es n
inserted_is es taken n whole at within taken_is whole_is =
    let long : length (take at es) ≡ at = length-take-le at es within in
    ap (λ (l : List Extent). insert l at whole) taken_is
    ∙ ap (λ (l : List Extent). l ++ whole ∷ drop at (take at es ++ rest_of (drop at es) n)) (take_at (take at es) (rest_of (drop at es) n) at long)
    ∙ ap (λ (l : List Extent). take at es ++ whole ∷ l) (drop_at (take at es) (rest_of (drop at es) n) at long)
    ∙ ap (λ (w : Extent). take at es ++ w ∷ rest_of (drop at es) n) whole_is

-- an offset in the extent at a place, and one that doesn't lie in it
pub met_at : (es : List Extent) (at k : ℕ) (d : Extent) → at < length es → (get_or es at d).start ≤ k → k < (get_or es at d).end → is_covered (drop at es) k ≡ true
met_at es at k d within from below = rw (drop_more es at d within) (grind (arith, nat_tests))

pub not_met_at : (es : List Extent) (at k : ℕ) (d : Extent) → at < length es → (k < (get_or es at d).start) ⊎ ((get_or es at d).end ≤ k) → is_covered (drop at es) k ≡ is_covered (drop (at + 1) es) k
not_met_at es at k d within out = rw (drop_more es at d within) (grind (arith, nat_tests))

-- how long the extents are from which those met are taken, and those with the new one
pub length-taken : (es taken : List Extent) (n : Extent) (at : ℕ) → at ≤ length es → taken ≡ take at es ++ rest_of (drop at es) n → length taken ≡ at + length (rest_of (drop at es) n)
length-taken es taken n at within is =
    rw is (omega (arith, length-append (take at es) (rest_of (drop at es) n), length-take-le at es within))

pub length-joined_at : (at : ℕ) (es : List Extent) (n : Extent) → at ≤ length es → length (joined_at at es n) ≡ at + length (rest_of (drop at es) n) + 1
length-joined_at at es n within =
    omega (arith, length-append (take at es) (whole_of (drop at es) n ∷ rest_of (drop at es) n), length-take-le at es within)

pub rest_within : (es : List Extent) (at : ℕ) (n : Extent) → at ≤ length es → at + length (rest_of (drop at es) n) ≤ length es
rest_within es at n within = omega (arith, rest_no_longer (drop at es) n, length-drop at es)
