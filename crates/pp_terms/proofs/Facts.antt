-- Facts on tests, options, lists and numbers.
use Rattle.std.proofs.Common.{◌≡◌, ◌⊎◌, inl, inr, ⊎_elim, ℕ, ◌+◌, ◌*◌, ◌/◌, ◌%◌, ◌<◌, Bool, true, false, ◌||◌, Option, None, Some, List, [], ◌∷◌, ◌++◌, length, take, drop, get_or, replicate, refl, sym, ◌∙◌, ap, arith}
use Rattle.std.specs.Prelude.{is_some, nat_eq}
use Rattle.std.specs.List.{list_all}
use Rattle.std.specs.Str.{bytes_eq}
use Rattle.std.specs.Cmp.Lexicographic.{pointwise}
use Rattle.std.proofs.Math.Seq.{take-append_seam, drop-append_seam}
use Rattle.std.proofs.lemmas.Bool.{cases_Bool, cases_eq, cases_lt, and_parts, and_from, or_right, eq-eqb, false≢true}
use Rattle.std.proofs.lemmas.List.{get_or_past, get_or-replicate, length-replicate}
use Rattle.std.proofs.lemmas.Slice.Eq.{bytes_eq-Decides}

-- two tests that hold together are one
pub same_bool : (a b : Bool) → (a ≡ true → b ≡ true) → (b ≡ true → a ≡ true) → a ≡ b
same_bool true true there back = refl
same_bool true false there back = sym (there refl)
same_bool false true there back = back refl
same_bool false false there back = refl

-- the value of an option that has one, and the way back
pub value_of : {X : Type 0} (o : Option X) → is_some o ≡ true → (x : X) × (o ≡ Some x)
value_of None e = absurd (false≢true e)
value_of (Some x) e = (x, refl)

pub has_value : {X : Type 0} (o : Option X) (x : X) → o ≡ Some x → is_some o ≡ true
has_value o x e = ap is_some e

-- bytes are compared
pub bytes_cases : (xs ys : List ℕ) → (xs ≡ ys) ⊎ (xs ≡ ys → ⊥)
bytes_cases xs ys = elim (cases_Bool (bytes_eq xs ys)) [
  | inl t ↦ inl ((bytes_eq-Decides xs ys).0 t)
  | inr f ↦ inr (λ e. let t = (bytes_eq-Decides xs ys).1 e in cc)
]

pub bytes_same : (xs : List ℕ) → pointwise nat_eq xs xs ≡ true
bytes_same [] = refl
bytes_same (x ∷ xs) = and_from (nat_eq x x) (pointwise nat_eq xs xs) (eq-eqb x x refl) (bytes_same xs)

-- equal lists that are cut at one place have equal fronts and equal backs
pub front_same : (a b c d : List ℕ) → length a ≡ length c → a ++ b ≡ c ++ d → a ≡ c
front_same a b c d long e =
    sym (take-append_seam a b) ∙ ap (λ xs. take (length a) xs) e ∙ ap (λ n. take n (c ++ d)) long ∙ take-append_seam c d

pub back_same : (a b c d : List ℕ) → length a ≡ length c → a ++ b ≡ c ++ d → b ≡ d
back_same a b c d long e =
    sym (drop-append_seam a b) ∙ ap (λ xs. drop (length a) xs) e ∙ ap (λ n. drop n (c ++ d)) long ∙ drop-append_seam c d

-- a member of a set is below the set's size, and an empty set has none
pub member_below : (set : List Bool) (i : ℕ) → get_or set i false ≡ true → i < length set
member_below set i is =
    ⊎_elim (λ lt. lt) (λ past. absurd (false≢true (sym (get_or_past set i false past) ∙ is))) (cases_lt i (length set))

pub none_in : (n i : ℕ) → get_or (replicate n false) i false ≡ false
none_in n i = ⊎_elim
    (λ lt. get_or-replicate n i false false lt)
    (λ ge. get_or_past (replicate n false) i false (let size : length (replicate n false) ≡ n = length-replicate n false in omega arith))
    (cases_lt i n)

-- what passes a test passes a weaker one
pub all_weaker : {X : Type 0} (p q : X → Bool) (xs : List X) → list_all q xs ≡ true → list_all (λ x. p x || q x) xs ≡ true
all_weaker p q [] e = refl
all_weaker p q (x ∷ xs) e =
    let parts = and_parts (q x) (list_all q xs) e in
    and_from (p x || q x) (list_all (λ y. p y || q y) xs) (or_right (p x) (q x) parts.0) (all_weaker p q xs parts.1)

-- a number is twice its half, or one more
pub which_half : (j i : ℕ) → j / 2 ≡ i → (j ≡ 2 * i) ⊎ (j ≡ 2 * i + 1)
which_half j i e = ⊎_elim (λ even. inl (omega arith)) (λ odd. inr (omega arith)) (cases_eq (j % 2) 0)
