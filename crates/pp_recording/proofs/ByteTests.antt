-- What a test of two texts or of a count tells.
use Rattle.std.proofs.Common.{◌≡◌, ℕ, [], ◌∷◌, length, zero, suc, ◌%◌, ◌<◌, ◌==◌, Bool, true, false, not, ap, List, refl, ◌∙◌, sym, inl, inr, arith}
use Rattle.std.specs.Prelude.{bytes_eq}
use Rattle.std.proofs.lemmas.Bool.{cases_eq, true≢false, ne_eqb}
use Rattle.std.proofs.lemmas.Slice.Eq.{bytes_eq-Decides}

pub told_same : (r : Bool) (xs ys zs : List ℕ) → r ≡ bytes_eq xs ys → ys ≡ zs → r ≡ true → xs ≡ zs
told_same r xs ys zs told is t = (bytes_eq-Decides xs ys).0 (sym told ∙ t) ∙ is

pub told_apart : (r : Bool) (xs ys zs : List ℕ) → r ≡ bytes_eq xs ys → ys ≡ zs → r ≡ false → xs ≡ zs → ⊥
told_apart r xs ys zs told is f same = true≢false (sym ((bytes_eq-Decides xs ys).1 (same ∙ sym is)) ∙ sym told ∙ f)

pub not_none : (n : ℕ) → 0 < n → true ≡ (n == 0) → ⊥
not_none n some e = true≢false (e ∙ ne_eqb n 0 (λ is. omega (arith, some, is)))

pub some_of : (n : ℕ) → false ≡ (n == 0) → 0 < n
some_of zero e = absurd (true≢false (sym e))
some_of (suc n) e = omega arith

pub even_of : (n : ℕ) → (n % 2 ≡ 1 → ⊥) → n % 2 ≡ 0
even_of n odd = elim (cases_eq (n % 2) 1) [ inl is ↦ absurd (odd is) | inr other ↦ omega (arith, other) ]

pub never : false ≡ true → ⊥
never e = true≢false (sym e)

pub none_of : (xs : List ℕ) → true ≡ (length xs == 0) → xs ≡ []
none_of [] e = refl
none_of (x ∷ xs) e = absurd (not_none (length (x ∷ xs)) (omega arith) e)

pub told_differ : (xs ys zs : List ℕ) → true ≡ not (bytes_eq xs ys) → ys ≡ zs → xs ≡ zs → ⊥
told_differ xs ys zs told is same = true≢false (told ∙ ap (λ (b : Bool). not b) ((bytes_eq-Decides xs ys).1 (same ∙ sym is)))
