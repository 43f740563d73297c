-- Testing the peaks layer by layer, from the lowest on.
use Rattle.std.proofs.Common.{◌≡◌, ℕ, zero, suc, ◌+◌, ◌-◌, ◌/◌, ◌%◌, ◌^◌, ◌<◌, ◌==◌, ◌||◌, ◌&&◌, Bool, true, false, refl, sym, ◌∙◌, ap, inl, inr, arith}
use Rattle.std.specs.Prelude.{is_some}
use Rattle.std.proofs.lemmas.Bool.{cases_lt}
use Rattle.std.proofs.lemmas.Bool.Decides.{nat_tests}
use Rattle.pp_terms.specs.tree.Book.{LookUp, has_peaks_below}
use Rattle.pp_terms.specs.tree.Tree.{above}
use Rattle.pp_terms.proofs.Peaks.{above_is}

-- the test of one layer
abbrev tested : LookUp → ℕ → ℕ → Bool
tested book n k = above k n % 2 == 0 || is_some (book k (above k n - 1))

-- the peak of layer k is in the book
pub with_peak : (book : LookUp) (n k full : ℕ) → full ≡ n / 2 ^ k → is_some (book k (full - 1)) ≡ true
    → has_peaks_below book n k ≡ true → has_peaks_below book n (k + 1) ≡ true
with_peak book n k full full_is here before =
    let at : above k n ≡ full = above_is k n ∙ sym full_is in
    let one : tested book n k ≡ true = rw at (elim (full % 2 == 0) as (λ b. (b || is_some (book k (full - 1))) ≡ true) [ true ↦ refl | false ↦ here ]) in
    let more : k + 1 ≡ suc k = omega arith in
    rw more (rw (one, before) refl)

-- layer k has no peak
pub without_peak : (book : LookUp) (n k full : ℕ) → full ≡ n / 2 ^ k → (full % 2 ≡ 1 → ⊥)
    → has_peaks_below book n k ≡ true → has_peaks_below book n (k + 1) ≡ true
without_peak book n k full full_is even before =
    let at : above k n ≡ full = above_is k n ∙ sym full_is in
    let test : (full % 2 == 0) ≡ true = grind (arith, nat_tests) in
    let more : k + 1 ≡ suc k = omega arith in
    rw more (rw (at, test, before) refl)

-- where a layer fails, all layers with it do
failing : (book : LookUp) (n k m : ℕ) → tested book n k ≡ false → k < m → has_peaks_below book n m ≡ false
failing book n k zero fails lt = absurd (omega arith)
failing book n k (suc m) fails lt = elim (cases_lt k m) [
  | inl below ↦ let rest = failing book n k m fails below in
      rw rest (elim (tested book n m) as (λ b. (b && false) ≡ false) [ true ↦ refl | false ↦ refl ])
  | inr ge ↦ let same : m ≡ k = omega arith in
      let here : tested book n m ≡ false = ap (λ (i : ℕ). tested book n i) same ∙ fails in rw here refl
]

-- the peak of layer k is absent
pub lacks_peak : (book : LookUp) (n k m full : ℕ) → full ≡ n / 2 ^ k → full % 2 ≡ 1 → is_some (book k (full - 1)) ≡ false
    → k < m → has_peaks_below book n m ≡ false
lacks_peak book n k m full full_is odd none lt =
    let at : above k n ≡ full = above_is k n ∙ sym full_is in
    let test : (full % 2 == 0) ≡ false = grind (arith, nat_tests) in
    failing book n k m (rw (at, test) none) lt
