use Rattle.std.proofs.Common.{ℕ, ◌<◌, length, List, sym, ◌∙◌, subst, ap, arith}
use Rattle.std.proofs.lemmas.Bool.Decides.{nat_tests}
use Rattle.pp_terms.specs.tree.Range.{Span, has, IsRunsFrom}
use Rattle.pp_ranges.proofs.Runs.{first_is}
use Rattle.pp_ranges.proofs.list.RangeList.first.Goals as goal

pub returns-clause-least : goal.returns-clause-least
returns-clause-least c =
    let e = c.deref.ensures.0 ∙ c.self.view_is in
    let runs = subst (λ (xs : List Span). IsRunsFrom 0 xs) (sym c.deref.ensures.0) c.self.invariant in
    let some : 0 < length c.self.inside.ranges.items = grind (arith, nat_tests) in
    let some' : 0 < length c.deref.result.now = subst (λ (xs : List Span). 0 < length xs) (sym c.deref.ensures.0) some in
    let both = first_is c.deref.result.now c.index-deref-0.result runs some' c.index-deref-0.is in (
      ap (λ (xs : List Span). has xs c.first.result) (sym e) ∙ ap (λ (n : ℕ). has c.deref.result.now n) c.first.ensures.first ∙ both.0,
      λ i lt. ap (λ (xs : List Span). has xs i) (sym e) ∙ both.1 i (omega arith),
    )
