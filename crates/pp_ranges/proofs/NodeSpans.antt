-- Ranges that are the leaves of a node, and others.
use Rattle.std.proofs.Common.{◌≡◌, ℕ, ◌+◌, ◌-◌, ◌*◌, ◌%◌, ◌^◌, ◌<◌, ◌≤◌, sym, ◌∙◌, ap, inl, inr, arith}
use Rattle.std.proofs.lemmas.Bool.{cases_lt}
use Rattle.std.proofs.lemmas.Nat.{pow_pos}
use Rattle.std.proofs.Math.Pow.{pow_mono}
use Rattle.std.proofs.Math.Nat.{mul-mod_left}
use Rattle.pp_terms.specs.tree.Tree as terms
use Rattle.pp_terms.specs.tree.Range.{Span, leaves_of}

-- a node of a high layer has a great leaf
pub high_leaf : (offset layer : ℕ) → 32 < layer → 2 ^ 32 ≤ (offset + 1) * 2 ^ layer - 1
high_leaf offset layer high =
    let up : 2 ^ 33 ≤ 2 ^ layer = pow_mono high in
    let times : 2 ^ layer ≤ (offset + 1) * 2 ^ layer = omega arith in
    omega arith

pub no_node : (span : Span) (at : terms.Node) → span.last < 2 ^ 32 → leaves_of at ≡ span
    → ((k : ℕ) → k < 33 → 2 ^ k ≡ span.last - span.first + 1 → span.first % (span.last - span.first + 1) ≡ 0 → ⊥) → ⊥
no_node span at low e none =
    let first : at.offset * 2 ^ at.layer ≡ span.first = ap (λ (s : Span). s.first) e in
    let last : (at.offset + 1) * 2 ^ at.layer - 1 ≡ span.last = ap (λ (s : Span). s.last) e in
    let some : 0 < 2 ^ at.layer = pow_pos at.layer in
    let wide : 2 ^ at.layer ≡ span.last - span.first + 1 = omega arith in
    let layer : at.layer < 33 = elim (cases_lt at.layer 33) [
      | inl lt ↦ lt
      | inr ge ↦ let up : 2 ^ 33 ≤ 2 ^ at.layer = pow_mono ge in absurd (omega arith)
    ] in
    let whole : at.offset * 2 ^ at.layer % 2 ^ at.layer ≡ 0 = mul-mod_left at.offset (2 ^ at.layer) in
    none at.layer layer wide (ap (λ n. span.first % n) (sym wide) ∙ ap (λ n. n % 2 ^ at.layer) (sym first) ∙ whole)
