-- One address is one.
use Rattle.std.proofs.Common.{◌≡◌, ℕ, eqb, true, List, refl, sym, ◌∙◌, ap}
use Rattle.std.specs.Prelude.{nat_eq}
use Rattle.std.specs.Cmp.Lexicographic.{pointwise, same_text}
use Rattle.std.proofs.lemmas.Bool.{and_parts, and_from, eqb-true, eq-eqb}
use Rattle.pp_terms.proofs.Facts.{bytes_same}
use Rattle.pp_terms.specs.format.Traffic.{Address, V4, V6, same_address}

pub same_is : (a b : Address) → same_address a b ≡ true → a ≡ b
same_is (V4 a p) (V4 b q) e =
    let parts = and_parts (pointwise nat_eq a b) (eqb p q) e in
    ap (λ (xs : List ℕ). V4 xs p) (same_text a b (sym parts.0)) ∙ ap (λ (n : ℕ). V4 b n) (eqb-true p q parts.1)
same_is (V4 a p) (V6 b q) e = absurd cc
same_is (V6 a p) (V4 b q) e = absurd cc
same_is (V6 a p) (V6 b q) e =
    let parts = and_parts (pointwise nat_eq a b) (eqb p q) e in
    ap (λ (xs : List ℕ). V6 xs p) (same_text a b (sym parts.0)) ∙ ap (λ (n : ℕ). V6 b n) (eqb-true p q parts.1)

pub same_self : (a : Address) → same_address a a ≡ true
same_self (V4 bytes port) = and_from (pointwise nat_eq bytes bytes) (eqb port port) (bytes_same bytes) (eq-eqb port port refl)
same_self (V6 bytes port) = and_from (pointwise nat_eq bytes bytes) (eqb port port) (bytes_same bytes) (eq-eqb port port refl)
