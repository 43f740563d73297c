-- The tests by which code finds a peak.
use Rattle.std.proofs.Common.{◌≡◌, ℕ, ◌+◌, ◌/◌, ◌%◌, ◌^◌, ◌<◌, ◌≤◌, eqb, true, false, sym, ◌∙◌, arith, inl, inr}
use Rattle.std.proofs.lemmas.Bool.{cases_Bool, both_ways, eq-eqb, eqb-true, false_from_ne_true}
use Rattle.pp_terms.specs.tree.Tree.{Node, is_peak}
use Rattle.pp_terms.proofs.Peaks.{peak_found, peak_from, above_is}

pub too_high : (chunks : ℕ) (n : Node) → 21 ≤ n.layer → false ≡ is_peak chunks n
too_high chunks n high = sym (false_from_ne_true (is_peak chunks n) (λ e. let at = peak_found chunks n e in omega (arith, at.0)))

pub right_child : (chunks : ℕ) (n : Node) → n.offset % 2 ≡ 1 → false ≡ is_peak chunks n
right_child chunks n odd = sym (false_from_ne_true (is_peak chunks n) (λ e. let at = peak_found chunks n e in omega (arith, at.1)))

pub last_full : (chunks : ℕ) (n : Node) → n.layer < 21 → (n.offset % 2 ≡ 1 → ⊥) → eqb (chunks / 2 ^ n.layer) (n.offset + 1)
    ≡ is_peak chunks n
last_full chunks n low even = elim (cases_Bool (is_peak chunks n)) [
  | inl peak ↦
      let at = peak_found chunks n peak in
      eq-eqb (chunks / 2 ^ n.layer) (n.offset + 1) (sym (above_is n.layer chunks) ∙ at.2) ∙ sym peak
  | inr none ↦ false_from_ne_true (eqb (chunks / 2 ^ n.layer) (n.offset + 1)) (λ e.
      let peak : is_peak chunks n ≡ true = peak_from chunks n low (omega (arith, even))
      (above_is n.layer chunks ∙ eqb-true (chunks / 2 ^ n.layer) (n.offset + 1) e) in
      both_ways (is_peak chunks n) none peak) ∙ sym none
]
