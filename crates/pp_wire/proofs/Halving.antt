-- When a span is that of one bin, by its halves.
use Rattle.std.proofs.Common.{◌≡◌, ◌↔◌, ◌⊎◌, ℕ, ◌/◌, ◌%◌, ◌≤◌, IsTrue, Bool, true, false, refl, subst, arith, inl, inr}
use Rattle.pp_terms.specs.format.Messages.{IsBinSpan}
use Rattle.pp_terms.specs.tree.Range.{Span}
use Rattle.pp_terms.proofs.BinSpans.{Halves, bin_leaf, bin_halves, bin_twice}

abbrev pub from_to : ℕ → ℕ → Span
from_to a b = record { first = a; last = b }

pub leaf_iff : (a b : ℕ) → a ≡ b → IsTrue true ↔ IsBinSpan (from_to a b)
leaf_iff a b e =
    let P : ℕ → Type 0 = λ x. IsBinSpan (from_to a x) in
    (λ h. subst P e (bin_leaf a), λ h. refl)

not_true : IsTrue false → ⊥
not_true h = cc

-- an end that no bin of several leaves has
pub uneven_iff : (a b : ℕ) → a ≤ b → (a ≡ b → ⊥) → (a % 2 ≡ 1) ⊎ (b % 2 ≡ 0) → IsTrue false ↔ IsBinSpan (from_to a b)
uneven_iff a b le ne (inl odd) =
    (λ h. absurd (not_true h), λ h. let p : Halves (from_to a b) = bin_halves (from_to a b) (omega (arith, ne)) h in absurd (omega (arith, p.even)))
uneven_iff a b le ne (inr even) =
    (λ h. absurd (not_true h), λ h. let p : Halves (from_to a b) = bin_halves (from_to a b) (omega (arith, ne)) h in absurd (omega (arith, p.odd)))

pub half_iff : (a b : ℕ) (t : Bool) → a ≤ b → (a ≡ b → ⊥) → (a % 2 ≡ 1 → ⊥) → (b % 2 ≡ 0 → ⊥)
    → IsTrue t ↔ IsBinSpan (from_to (a / 2) (b / 2)) → IsTrue t ↔ IsBinSpan (from_to a b)
half_iff a b t le ne even odd h = (
  λ is. bin_twice (from_to a b) (record { even = omega (arith, even); odd = omega (arith, odd); halves = h.0 is }),
  λ is. h.1 (bin_halves (from_to a b) (omega (arith, ne)) is).halves,
)
