-- The half of a pair that a child has.
use Rattle.std.proofs.Common.{◌≡◌, ℕ, ◌+◌, ◌*◌, ◌%◌, ◌==◌, Bool, true, false, cond, List, take, drop, ap, arith}
use Rattle.std.proofs.lemmas.Bool.Decides.{nat_tests}
use Rattle.pp_terms.specs.disk.Image.{half}

pub half_even : (j i : ℕ) (both : List ℕ) → j ≡ 2 * i → half j both ≡ take 32 both
half_even j i both e =
    let test : (j % 2 == 0) ≡ true = grind (arith, nat_tests) in
    ap (λ (b : Bool). cond b (take 32 both) (drop 32 both)) test

pub half_odd : (j i : ℕ) (both : List ℕ) → j ≡ 2 * i + 1 → half j both ≡ drop 32 both
half_odd j i both e =
    let test : (j % 2 == 0) ≡ false = grind (arith, nat_tests) in
    ap (λ (b : Bool). cond b (take 32 both) (drop 32 both)) test
