-- The peaks of a count, layer by layer.
use Rattle.std.proofs.Common.{◌≡◌, ℕ, zero, suc, ◌+◌, ◌-◌, ◌*◌, ◌/◌, ◌%◌, ◌^◌, ◌≤◌, ◌<◌, ◌==◌, true, false, nat_lt, nat_le, List, [], ◌∷◌, ◌++◌, refl, sym, ◌∙◌, ap, subst, arith, append_assoc}
use Rattle.std.proofs.Math.Pow.{pow_mono}
use Rattle.std.proofs.lemmas.Bool.Decides.{nat_tests}
use Rattle.pp_terms.specs.tree.Tree.{above, peaks_below, Node}
use Rattle.pp_terms.proofs.Peaks.{above_is}

-- halving once, and then so many times
pub above_half : (n j : ℕ) → above n (j / 2) ≡ above (suc n) j
above_half zero j = refl
above_half (suc n) j = ap (λ (m : ℕ). m / 2) (above_half n j)

one_peak : (m n : ℕ) → n / 2 ^ m % 2 ≡ 1
    → peaks_below (suc m) n ≡ record { layer = m; offset = n / 2 ^ m - 1 } ∷ peaks_below m n
one_peak m n odd =
    let test : (above m n % 2 == 1) ≡ true = rw above_is (grind (arith, nat_tests)) in
    rw test (rw above_is refl)

none_here : (m n : ℕ) → (n / 2 ^ m % 2 ≡ 1 → ⊥) → peaks_below (suc m) n ≡ peaks_below m n
none_here m n even =
    let test : (above m n % 2 == 1) ≡ false = rw above_is (grind (arith, nat_tests)) in
    rw test refl

-- layer k - 1 has a peak
pub peak_here : (k n full : ℕ) (out all : List Node) → 0 < k → full ≡ n / 2 ^ (k - 1) → full % 2 ≡ 1
    → out ++ peaks_below k n ≡ all
    → (out ++ record { layer = k - 1; offset = full - 1 } ∷ []) ++ peaks_below (k - 1) n ≡ all
peak_here zero n full out all some full_is odd is = absurd (omega arith)
peak_here (suc m) n full out all some full_is odd is =
    let down : suc m - 1 ≡ m = omega arith in
    let full_at : full ≡ n / 2 ^ m = full_is ∙ ap (λ (k : ℕ). n / 2 ^ k) down in
    rw (append_assoc, down, full_at)
    (subst (λ (rest : List Node). out ++ rest ≡ all)
    (one_peak m n (subst (λ (q : ℕ). q % 2 ≡ 1) full_at odd)) is)

-- or none
pub no_peak_here : (k n full : ℕ) (out all : List Node) → 0 < k → full ≡ n / 2 ^ (k - 1) → (full % 2 ≡ 1 → ⊥)
    → out ++ peaks_below k n ≡ all → out ++ peaks_below (k - 1) n ≡ all
no_peak_here zero n full out all some full_is even is = absurd (omega arith)
no_peak_here (suc m) n full out all some full_is even is =
    let down : suc m - 1 ≡ m = omega arith in
    let full_at : full ≡ n / 2 ^ m = full_is ∙ ap (λ (k : ℕ). n / 2 ^ k) down in
    rw down
    (subst (λ (rest : List Node). out ++ rest ≡ all)
    (none_here m n (subst (λ (q : ℕ). q % 2 ≡ 1 → ⊥) full_at even)) is)

-- a node of a layer above all isn't full
pub too_high : (n layer offset : ℕ) → n < 2 ^ 32 → 32 ≤ layer → nat_lt layer 32 ≡ nat_le ((offset + 1) * 2 ^ layer) n
too_high n layer offset low high =
    let up : 2 ^ 32 ≤ 2 ^ layer = pow_mono high in
    let times : 2 ^ layer ≤ (offset + 1) * 2 ^ layer = omega arith in
    let left : nat_lt layer 32 ≡ false = grind (arith, nat_tests) in
    let right : nat_le ((offset + 1) * 2 ^ layer) n ≡ false = grind (arith, nat_tests) in
    left ∙ sym right
