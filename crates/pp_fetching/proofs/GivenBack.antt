-- Chunks that are asked for no more, one after the other.
use Rattle.std.proofs.Common.{◌≡◌, ◌⊎◌, inl, inr, ⊎_elim, ℕ, suc, ◌+◌, ◌<◌, ◌≤◌, eqb, nat_le, nat_lt, Bool, true, false, cond, not, ◌&&◌, ◌||◌, Some, None, List, [], ◌∷◌, ◌++◌, length, take, get_or, set, refl, sym, ◌∙◌, ap, subst, arith}
use Rattle.std.specs.Prelude.{is_some}
use Rattle.std.proofs.lemmas.Bool.{cases_eq, cases_lt, eq-eqb}
use Rattle.std.proofs.lemmas.Bool.Decides.{nat_tests}
use Rattle.std.proofs.lemmas.List.{get_or-set_same, get_or-set_other, get_or_past, set_past, take_all}
use Rattle.std.proofs.Math.Seq.{take-suc}
use Rattle.std.proofs.Math.Bool.{and-or_distrib_right, and-true, and-false, or-false}
use Rattle.pp_terms.specs.tree.Range.{Span, within, has}
use Rattle.pp_requests.specs.declared.asking.Asking.{Asking}
use Rattle.pp_requests.specs.Moments.{asked_at}
use Rattle.pp_ranges.proofs.Runs.{append_has}
use Rattle.pp_fetching.specs.Fetching.{FetchState, with_asked, without_request, GivesBack}

-- ---- no chunk, one, and some after others

pub none_back : (which : ℕ → Bool) (s : FetchState) → ((i : ℕ) → which i ≡ false) → GivesBack which s s
none_back which s none = record {
  asked = λ i. sym (and-true (get_or s.want.asked i false)) ∙ ap (λ (b : Bool). get_or s.want.asked i false && not b) (sym (none i));
  rest = refl;
}

and_both : (a p q : Bool) → ((a && not p) && not q) ≡ (a && not (p || q))
and_both true true q = refl
and_both true false q = refl
and_both false p q = refl

pub back_twice : (p q : ℕ → Bool) (old mid new : FetchState) → GivesBack p old mid → GivesBack q mid new → GivesBack (λ i. p i || q i) old new
back_twice p q old mid new one two = record {
  asked = λ i. two.asked i ∙ ap (λ (b : Bool). b && not (q i)) (one.asked i) ∙ and_both (get_or old.want.asked i false) (p i) (q i);
  rest = two.rest ∙ ap (λ (s : FetchState). with_asked new.want.asked s) one.rest;
}

pub same_back : (p q : ℕ → Bool) (old new : FetchState) → GivesBack p old new → ((i : ℕ) → p i ≡ q i) → GivesBack q old new
same_back p q old new back same = record {
  asked = λ i. back.asked i ∙ ap (λ (b : Bool). get_or old.want.asked i false && not b) (same i);
  rest = back.rest;
}

pub cleared : (xs : List Bool) (i k : ℕ) → get_or (set xs i false) k false ≡ (get_or xs k false && not (eqb i k))
cleared xs i k = ⊎_elim
    (λ (same : i ≡ k). ap (λ (n : ℕ). get_or (set xs i false) n false) (sym same) ∙ here (cases_lt i (length xs))
    ∙ sym (ap (λ (b : Bool). get_or xs k false && not b) (eq-eqb i k same) ∙ and-false (get_or xs k false)))
    (λ other.
    let ne : k ≡ i → ⊥ = λ e. other (sym e) in
    let test : eqb i k ≡ false = grind (arith, nat_tests) in
    get_or-set_other xs i k false false ne ∙ sym (and-true (get_or xs k false)) ∙ ap (λ (b : Bool). get_or xs k false && not b) (sym test))
    (cases_eq i k)
  where
    here : (i < length xs) ⊎ (length xs ≤ i) → get_or (set xs i false) i false ≡ false
    here (inl lt) = get_or-set_same xs i false false lt
    here (inr past) = ap (λ (ys : List Bool). get_or ys i false) (set_past xs i false past) ∙ get_or_past xs i false past

pub one_back : (i : ℕ) (old new : FetchState) → new ≡ without_request i old → GivesBack (λ k. eqb i k) old new
one_back i old new is = record {
  asked = λ k. ap (λ (s : FetchState). get_or s.want.asked k false) is ∙ cleared old.want.asked i k;
  rest = is ∙ ap (λ (s : FetchState). with_asked s.want.asked old) (sym is);
}

-- one chunk that is given back where a test is false
pub one_unless : (i : ℕ) (test : ℕ → Bool) (old new : FetchState)
    → ((test i ≡ false) × (new ≡ without_request i old)) ⊎ ((test i ≡ true) × (new ≡ old))
    → GivesBack (λ k. eqb i k && not (test k)) old new
one_unless i test old new (inl is) = same_back (λ k. eqb i k) (λ k. eqb i k && not (test k)) old new (one_back i old new is.1)
    (λ k. ⊎_elim
    (λ (same : i ≡ k). sym (ap (λ (b : Bool). eqb i k && not b) (ap test (sym same) ∙ is.0) ∙ and-true (eqb i k)))
    (λ other. let none : eqb i k ≡ false = grind (arith, nat_tests) in none ∙ sym (ap (λ (b : Bool). b && not (test k)) none))
    (cases_eq i k))
one_unless i test old new (inr is) = subst (λ (s : FetchState). GivesBack (λ k. eqb i k && not (test k)) old s) (sym is.1)
    (none_back (λ k. eqb i k && not (test k)) old (λ k. ⊎_elim
    (λ (same : i ≡ k). ap (λ (b : Bool). eqb i k && not b) (ap test (sym same) ∙ is.0) ∙ and-false (eqb i k))
    (λ other. let none : eqb i k ≡ false = grind (arith, nat_tests) in ap (λ (b : Bool). b && not (test k)) none)
    (cases_eq i k)))

-- ---- the chunks of own requests

asked_append : (xs : List Asking) (x : Asking) (i : ℕ) → is_some (asked_at (xs ++ x ∷ []) i) ≡ (is_some (asked_at xs i) || eqb x.chunk i)
asked_append [] x i = elim (eqb x.chunk i) as (λ (b : Bool). is_some (cond b (Some x.moment) None) ≡ b) [ true ↦ refl | false ↦ refl ]
asked_append (y ∷ ys) x i = elim (eqb y.chunk i)
    as (λ (b : Bool). is_some (cond b (Some y.moment) (asked_at (ys ++ x ∷ []) i)) ≡ (is_some (cond b (Some y.moment) (asked_at ys i)) || eqb x.chunk i)) [
      | true ↦ refl
      | false ↦ asked_append ys x i
    ]

pub entries_more : (xs : List Asking) (n : ℕ) (d : Asking) (old mid new : FetchState) → n < length xs
    → GivesBack (λ i. is_some (asked_at (take n xs) i)) old mid → new ≡ without_request (get_or xs n d).chunk mid
    → GivesBack (λ i. is_some (asked_at (take (n + 1) xs) i)) old new
entries_more xs n d old mid new lt back is =
    let more : n + 1 ≡ suc n = omega arith in
    let grown : take (n + 1) xs ≡ take n xs ++ get_or xs n d ∷ [] = ap (λ k. take k xs) more ∙ take-suc xs n d lt in
    same_back (λ i. is_some (asked_at (take n xs) i) || eqb (get_or xs n d).chunk i) (λ i. is_some (asked_at (take (n + 1) xs) i)) old new
    (back_twice (λ i. is_some (asked_at (take n xs) i)) (λ i. eqb (get_or xs n d).chunk i) old mid new back (one_back (get_or xs n d).chunk mid new is))
    (λ i. sym (ap (λ ys. is_some (asked_at ys i)) grown ∙ asked_append (take n xs) (get_or xs n d) i))

pub entries_all : (xs : List Asking) (n : ℕ) (old new : FetchState) → length xs ≤ n → GivesBack (λ i. is_some (asked_at (take n xs) i)) old new
    → GivesBack (λ i. is_some (asked_at xs i)) old new
entries_all xs n old new le back = same_back (λ i. is_some (asked_at (take n xs) i)) (λ i. is_some (asked_at xs i)) old new back
    (λ i. ap (λ ys. is_some (asked_at ys i)) (take_all n xs le))

-- ---- the chunks of ranges that aren't awaited

-- of one range, from its first chunk on
pub range_more : (first n : ℕ) (test : ℕ → Bool) (old mid new : FetchState) → first ≤ n
    → GivesBack (λ k. (nat_le first k && nat_lt k n) && not (test k)) old mid → GivesBack (λ k. eqb n k && not (test k)) mid new
    → GivesBack (λ k. (nat_le first k && nat_lt k (n + 1)) && not (test k)) old new
range_more first n test old mid new low back one =
    same_back (λ k. ((nat_le first k && nat_lt k n) && not (test k)) || (eqb n k && not (test k))) (λ k. (nat_le first k && nat_lt k (n + 1)) && not (test k)) old new
    (back_twice (λ k. (nat_le first k && nat_lt k n) && not (test k)) (λ k. eqb n k && not (test k)) old mid new back one)
    (λ k. sym (and-or_distrib_right (nat_le first k && nat_lt k n) (eqb n k) (not (test k))) ∙ ap (λ (b : Bool). b && not (test k)) (grown k))
  where
    grown : (k : ℕ) → ((nat_le first k && nat_lt k n) || eqb n k) ≡ (nat_le first k && nat_lt k (n + 1))
    grown k = grind (arith, nat_tests)

pub range_none : (first n : ℕ) (test : ℕ → Bool) (s : FetchState) → n ≡ first → GivesBack (λ k. (nat_le first k && nat_lt k n) && not (test k)) s s
range_none first n test s e = none_back (λ k. (nat_le first k && nat_lt k n) && not (test k)) s
    (λ k. let none : (nat_le first k && nat_lt k n) ≡ false = grind (arith, nat_tests) in ap (λ (b : Bool). b && not (test k)) none)

pub range_all : (range : Span) (n : ℕ) (test : ℕ → Bool) (old new : FetchState) → n ≡ range.last + 1
    → GivesBack (λ k. (nat_le range.first k && nat_lt k n) && not (test k)) old new → GivesBack (λ k. within range k && not (test k)) old new
range_all range n test old new e back = same_back (λ k. (nat_le range.first k && nat_lt k n) && not (test k)) (λ k. within range k && not (test k)) old new back
    (λ k. ap (λ (b : Bool). b && not (test k)) (same k))
  where
    same : (k : ℕ) → (nat_le range.first k && nat_lt k n) ≡ within range k
    same k = grind (arith, nat_tests)

pub ranges_more : (xs : List Span) (n : ℕ) (x : Span) (test : ℕ → Bool) (old mid new : FetchState) → n < length xs → x ≡ get_or xs n x
    → GivesBack (λ i. has (take n xs) i && not (test i)) old mid → GivesBack (λ i. within x i && not (test i)) mid new
    → GivesBack (λ i. has (take (n + 1) xs) i && not (test i)) old new
ranges_more xs n x test old mid new lt at back one =
    let more : n + 1 ≡ suc n = omega arith in
    let grown : take (n + 1) xs ≡ take n xs ++ x ∷ [] = ap (λ k. take k xs) more ∙ take-suc xs n x lt ∙ ap (λ z. take n xs ++ z ∷ []) (sym at) in
    same_back (λ i. (has (take n xs) i && not (test i)) || (within x i && not (test i))) (λ i. has (take (n + 1) xs) i && not (test i)) old new
    (back_twice (λ i. has (take n xs) i && not (test i)) (λ i. within x i && not (test i)) old mid new back one)
    (λ i. sym (and-or_distrib_right (has (take n xs) i) (within x i) (not (test i))) ∙ ap (λ (b : Bool). b && not (test i)) (sym
    (ap (λ ys. has ys i) grown ∙ append_has (take n xs) (x ∷ []) i ∙ ap (λ (b : Bool). has (take n xs) i || b) (or-false (within x i)))))

pub ranges_all : (xs : List Span) (n : ℕ) (test : ℕ → Bool) (old new : FetchState) → length xs ≤ n
    → GivesBack (λ i. has (take n xs) i && not (test i)) old new → GivesBack (λ i. has xs i && not (test i)) old new
ranges_all xs n test old new le back = same_back (λ i. has (take n xs) i && not (test i)) (λ i. has xs i && not (test i)) old new back
    (λ i. ap (λ ys. has ys i && not (test i)) (take_all n xs le))
