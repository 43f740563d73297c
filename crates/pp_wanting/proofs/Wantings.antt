-- Two sets while a content's chunks are sorted out.
use Rattle.std.proofs.Common.{◌≡◌, ◌⊎◌, inl, inr, ⊎_elim, ℕ, ◌+◌, ◌<◌, nat_lt, Bool, true, false, not, ◌&&◌, List, length, get_or, set, replicate, sym, ◌∙◌, ap, arith}
use Rattle.std.proofs.lemmas.Bool.{cases_eq, cases_lt, and_left, and_right, lt-ltb}
use Rattle.std.proofs.lemmas.Bool.Decides.{nat_tests}
use Rattle.std.proofs.lemmas.List.{length-replicate, length-set, get_or-set_same, get_or-set_other, get_or_past}
use Rattle.pp_terms.proofs.Facts.{none_in}

-- a number more is marked, or isn't
pub marked_more : (xs xs' : List Bool) (P : ℕ → Bool) (i : ℕ) → i < length xs → ((k : ℕ) → get_or xs k false ≡ (nat_lt k i && P k))
    → ((xs' ≡ set xs i true) × (P i ≡ true)) ⊎ ((xs' ≡ xs) × (P i ≡ false)) → (k : ℕ) → get_or xs' k false ≡ (nat_lt k (i + 1) && P k)
marked_more xs xs' P i within so_far step k = ⊎_elim
    (λ same. by_same same step)
    (λ other.
    (⊎_elim (λ put. ap (λ (ys : List Bool). get_or ys k false) put.0 ∙ get_or-set_other xs i k true false other) (λ kept. ap (λ (ys : List Bool). get_or ys k false) kept.0) step)
    ∙ so_far k ∙ ap (λ (b : Bool). b && P k) (below other))
    (cases_eq k i)
  where
    below : (k ≡ i → ⊥) → nat_lt k i ≡ nat_lt k (i + 1)
    below other = grind (arith, nat_tests)

    here : nat_lt i (i + 1) ≡ true
    here = lt-ltb i (i + 1) (omega arith)

    by_same : k ≡ i → ((xs' ≡ set xs i true) × (P i ≡ true)) ⊎ ((xs' ≡ xs) × (P i ≡ false)) → get_or xs' k false ≡ (nat_lt k (i + 1) && P k)
    by_same same (inl put) =
        (λ t. get_or (put.0 t) (same t) false) ∙ get_or-set_same xs i true false within
        ∙ sym (ap (λ (m : ℕ). nat_lt m (i + 1) && P m) same ∙ (λ t. here t && put.1 t))
    by_same same (inr kept) =
        (λ t. get_or (kept.0 t) (same t) false) ∙ so_far i ∙ and_right (nat_lt i i) (P i) kept.1
        ∙ sym (ap (λ (m : ℕ). nat_lt m (i + 1) && P m) same ∙ and_right (nat_lt i (i + 1)) (P i) kept.1)

pub marked_none : (xs : List Bool) (n : ℕ) (P : ℕ → Bool) → xs ≡ replicate n false → (k : ℕ) → get_or xs k false ≡ (nat_lt k 0 && P k)
marked_none xs n P none k = ap (λ (ys : List Bool). get_or ys k false) none ∙ none_in n k ∙ sym (and_left (nat_lt k 0) (P k) (grind (arith, nat_tests)))

-- both sets, one chunk after the other
pub record AreSorted (held had wanted : List Bool) (chunks i : ℕ) : Type 0 where
  pub had_size : length had ≡ chunks
  pub wanted_size : length wanted ≡ chunks
  pub had_are : (k : ℕ) → get_or had k false ≡ (nat_lt k i && get_or held k false)
  pub wanted_are : (k : ℕ) → get_or wanted k false ≡ (nat_lt k i && not (get_or held k false))

pub sorted_more : (held had wanted had' wanted' : List Bool) (chunks i : ℕ) → i < chunks → AreSorted held had wanted chunks i
    → ((get_or held i false ≡ true) × (had' ≡ set had i true) × (wanted' ≡ wanted)) ⊎ ((get_or held i false ≡ false) × (had' ≡ had) × (wanted' ≡ set wanted i true))
    → AreSorted held had' wanted' chunks (i + 1)
sorted_more held had wanted had' wanted' chunks i within are (inl (is, put, kept)) = record {
  had_size = ap (λ (xs : List Bool). length xs) put ∙ length-set had i true ∙ are.had_size;
  wanted_size = ap (λ (xs : List Bool). length xs) kept ∙ are.wanted_size;
  had_are = marked_more had had' (λ k. get_or held k false) i (omega (arith, within, are.had_size)) are.had_are (inl (put, is));
  wanted_are = marked_more wanted wanted' (λ k. not (get_or held k false)) i (omega (arith, within, are.wanted_size)) are.wanted_are (inr (kept, ap (λ (b : Bool). not b) is));
}
sorted_more held had wanted had' wanted' chunks i within are (inr (is, kept, put)) = record {
  had_size = ap (λ (xs : List Bool). length xs) kept ∙ are.had_size;
  wanted_size = ap (λ (xs : List Bool). length xs) put ∙ length-set wanted i true ∙ are.wanted_size;
  had_are = marked_more had had' (λ k. get_or held k false) i (omega (arith, within, are.had_size)) are.had_are (inr (kept, is));
  wanted_are = marked_more wanted wanted' (λ k. not (get_or held k false)) i (omega (arith, within, are.wanted_size)) are.wanted_are (inl (put, ap (λ (b : Bool). not b) is));
}

pub sorted_first : (held had wanted : List Bool) (chunks : ℕ) → had ≡ replicate chunks false → wanted ≡ replicate chunks false → AreSorted held had wanted chunks 0
sorted_first held had wanted chunks one two = record {
  had_size = ap (λ (xs : List Bool). length xs) one ∙ length-replicate {A = Bool} chunks false;
  wanted_size = ap (λ (xs : List Bool). length xs) two ∙ length-replicate {A = Bool} chunks false;
  had_are = marked_none had chunks (λ k. get_or held k false) one;
  wanted_are = marked_none wanted chunks (λ k. not (get_or held k false)) two;
}

-- what is held, up to the end
pub held_all : (had held : List Bool) (chunks : ℕ) → length held ≡ chunks → ((k : ℕ) → get_or had k false ≡ (nat_lt k chunks && get_or held k false))
    → (k : ℕ) → get_or had k false ≡ get_or held k false
held_all had held chunks size each k = each k ∙ ⊎_elim
    (λ low. ap (λ (b : Bool). b && get_or held k false) (lt-ltb k chunks low))
    (λ past. let none = get_or_past held k false (omega (arith, past, size)) in and_right (nat_lt k chunks) (get_or held k false) none ∙ sym none)
    (cases_lt k chunks)
