-- Numbers in rising order, one after another.
use Rattle.std.proofs.Common.{◌≡◌, ℕ, zero, suc, ◌+◌, ◌<◌, ◌≤◌, List, [], ◌∷◌, length, drop, get_or, ◌∙◌, ap, subst, arith}
use Rattle.std.specs.List.Sorted.{IsNonDecreasing}
use Rattle.std.proofs.Math.Seq.{drop-cons, drop-nil}

abbrev pub IsRisingFrom : ℕ → List ℕ → Type 0
IsRisingFrom low [] = Unit {0}
IsRisingFrom low (c ∷ cs) = (low ≤ c) × IsRisingFrom c cs

pub rising_tail : (c : ℕ) (cs : List ℕ) → IsNonDecreasing (c ∷ cs) → IsRisingFrom c cs
rising_tail c [] h = tt
rising_tail c (d ∷ ds) h = (h zero (suc zero) c (omega arith) (omega arith), rising_tail d ds (λ i j e le lt. h (suc i) (suc j) e (omega arith) (omega arith)))

-- what is left of a list at an index
pub drop_at : (xs : List ℕ) (k d : ℕ) → k < length xs → drop k xs ≡ get_or xs k d ∷ drop (k + 1) xs
drop_at xs k d lt = drop-cons xs k d lt ∙ ap (λ (n : ℕ). get_or xs k d ∷ drop n xs) (let same : suc k ≡ k + 1 = omega arith in same)

pub rising_at : (low : ℕ) (xs : List ℕ) (k d : ℕ) → k < length xs → IsRisingFrom low (drop k xs) → (low ≤ get_or xs k d) × IsRisingFrom (get_or xs k d) (drop (k + 1) xs)
rising_at low xs k d lt h = subst (λ (ys : List ℕ). IsRisingFrom low ys) (drop_at xs k d lt) h

pub drop_end : (xs : List ℕ) (k : ℕ) → length xs ≤ k → drop k xs ≡ []
drop_end [] k le = drop-nil k
drop_end (x ∷ xs) zero le = absurd (omega arith)
drop_end (x ∷ xs) (suc k) le = drop_end xs k (omega arith)
