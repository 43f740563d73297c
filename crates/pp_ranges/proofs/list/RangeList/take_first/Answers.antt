use Rattle.std.proofs.Common.{◌≡◌, ℕ, ◌+◌, ◌≤◌, ◌<◌, length, get_or, List, sym, ◌∙◌, subst, ap, arith}
use Rattle.std.specs.Prelude.{remove}
use Rattle.std.proofs.lemmas.Bool.Decides.{nat_tests}
use Rattle.pp_terms.specs.tree.Range.{Span, has, IsRunsFrom}
use Rattle.pp_ranges.specs.Edits.{removed, without_below, number_count}
use Rattle.pp_ranges.proofs.Fronts.{first_shrinks, first_goes, taken_count, tail_runs, one_removed}
use Rattle.pp_ranges.proofs.Runs.{first_is, removed_runs}
use Rattle.pp_ranges.proofs.Lengths.{removed_front}
use Rattle.pp_ranges.proofs.list.RangeList.take_first.Goals as goal
use Rattle.pp_ranges.proofs.list.RangeList.take_first.Goals.{then-first-last, else-first-last}

pub returns-clause-least : goal.returns-clause-least
returns-clause-least c =
    let same = c.deref.ensures.0 ∙ c.self.view_is in
    let runs = subst (λ (xs : List Span). IsRunsFrom 0 xs) (sym c.deref.ensures.0) c.self.invariant in
    let some : 0 < length c.self.inside.ranges.items = grind (arith, nat_tests) in
    let some' : 0 < length c.deref.result.now = subst (λ (xs : List Span). 0 < length xs) (sym c.deref.ensures.0) some in
    let both = first_is c.deref.result.now c.index-deref-0.result runs some' c.index-deref-0.is in (
      ap (λ (xs : List Span). has xs c.first-2.result) (sym same) ∙ ap (λ (n : ℕ). has c.deref.result.now n) c.first-2.ensures.first ∙ both.0,
      λ i lt. ap (λ (xs : List Span). has xs i) (sym same) ∙ both.1 i (omega arith),
    )

pub returns-clause-exact : goal.returns-clause-exact
returns-clause-exact c =
    let same = c.deref.ensures.0 ∙ c.self.view_is in
    let runs = subst (λ (xs : List Span). IsRunsFrom 0 xs) c.self.view_is c.self.invariant in
    let some : 0 < length c.self.inside.ranges.items = grind (arith, nat_tests) in
    let some' : 0 < length c.args.self.now = subst (λ (xs : List Span). 0 < length xs) c.self.view_is some in
    let at : c.index-deref-0.result ≡ get_or c.args.self.now 0 c.index-deref-0.result =
    c.index-deref-0.is ∙ ap (λ (xs : List Span). get_or xs 0 c.index-deref-0.result) same in
    let first = c.first-2.ensures.first in
    (elim c.if-first-last.branch as (λ (_ : _). c.if-first-last.self ≡ removed (record { first = c.index-deref-0.result.first; last = c.index-deref-0.result.first }) c.args.self.now) [
      | then-first-last w ↦ w.self-is ∙ w.cut_first.ensures.exact ∙ ap (λ (n : ℕ). without_below (n + 1) c.args.self.now) w.first-then-first-last.ensures.first
          ∙ first_shrinks c.args.self.now c.index-deref-0.result runs some' at (omega arith)
      | else-first-last w ↦ w.self-is ∙ w.remove.ensures.items ∙ ap (λ (xs : List Span). remove xs 0) c.self.view_is
          ∙ first_goes c.args.self.now c.index-deref-0.result runs some' at (omega arith)
    ]) ∙ ap (λ (n : ℕ). removed (record { first = n; last = n }) c.args.self.now) (sym first)

pub returns-clause-rest : goal.returns-clause-rest
returns-clause-rest c i =
    ap (λ (xs : List Span). has xs i) (returns-clause-exact c)
    ∙ one_removed c.first-2.result c.args.self.now i (subst (λ (xs : List Span). IsRunsFrom 0 xs) c.self.view_is c.self.invariant)

pub returns-clause-few : goal.returns-clause-few
returns-clause-few c =
    let runs = subst (λ (xs : List Span). IsRunsFrom 0 xs) c.self.view_is c.self.invariant in
    let order = c.first-2.ensures.order in
    let least = returns-clause-least c in
    subst (λ (xs : List Span). length xs ≤ length c.args.self.now) (sym (returns-clause-exact c))
    (removed_front (record { first = c.first-2.result; last = c.first-2.result }) c.args.self.now 0 (omega arith) runs least.1)

pub returns-clause-runs : goal.returns-clause-runs
returns-clause-runs c =
    let runs = subst (λ (xs : List Span). IsRunsFrom 0 xs) c.self.view_is c.self.invariant in
    subst (λ (xs : List Span). IsRunsFrom 0 xs) (sym (returns-clause-exact c))
    (removed_runs (record { first = c.first-2.result; last = c.first-2.result }) c.args.self.now 0 (omega arith) runs)

pub returns-clause-count : goal.returns-clause-count
returns-clause-count c =
    let runs = subst (λ (xs : List Span). IsRunsFrom 0 xs) c.self.view_is c.self.invariant in
    let same = c.deref.ensures.0 ∙ c.self.view_is in
    let some : 0 < length c.self.inside.ranges.items = grind (arith, nat_tests) in
    let some' : 0 < length c.args.self.now = subst (λ (xs : List Span). 0 < length xs) c.self.view_is some in
    let at : c.index-deref-0.result ≡ get_or c.args.self.now 0 c.index-deref-0.result =
    c.index-deref-0.is ∙ ap (λ (xs : List Span). get_or xs 0 c.index-deref-0.result) same in
    ap (λ (xs : List Span). number_count xs + 1) (returns-clause-exact c ∙ ap (λ (n : ℕ). removed (record { first = n; last = n }) c.args.self.now) c.first-2.ensures.first)
    ∙ taken_count c.args.self.now c.index-deref-0.result runs some' at

pub invariant_of-self : goal.invariant_of-self
invariant_of-self c =
    subst (λ (xs : List Span). IsRunsFrom 0 xs) (sym c.remove.ensures.items)
    (tail_runs c.self.inside.ranges.items c.self.invariant)
