use Rattle.std.proofs.Common.{length, List, sym, ◌∙◌, subst, ap, arith}
use Rattle.std.specs.List.{filter}
use Rattle.pp_terms.specs.tree.Range.{Span, IsRunsFrom}
use Rattle.pp_ranges.specs.Edits.{is_apart}
use Rattle.pp_ranges.proofs.Runs.{few_kept, filter_runs, all_taken}
use Rattle.pp_ranges.proofs.Lengths.{kept_length}
use Rattle.pp_ranges.proofs.list.RangeList.remove_wide.Goals as goal

pub push-requires : goal.push-requires
push-requires c =
    let few = few_kept (is_apart c.args.range) c.deref-next-items.result.now c.loop-next.next-index in
    let same = ap (λ (xs : List Span). length xs) c.loop-next.invariant in
    (omega arith, omega (arith, few, same, c.deref-next-items.ensures.1))

pub invariant_of-self : goal.invariant_of-self
invariant_of-self c =
    let all = all_taken c.deref-next-items.result.now c.loop-next.next-index c.loop-next-test.false in
    let runs = subst (λ (xs : List Span). IsRunsFrom 0 xs) (sym c.deref-next-items.ensures.0) c.self.invariant in
    subst (λ (xs : List Span). IsRunsFrom 0 xs)
    (sym (c.loop-next.invariant ∙ ap (λ (xs : List Span). filter (is_apart c.args.range) xs) all))
    (filter_runs (is_apart c.args.range) c.deref-next-items.result.now 0 runs)

pub returns-clause-runs : goal.returns-clause-runs
returns-clause-runs c =
    let all = all_taken c.deref-next-items.result.now c.loop-next.next-index c.loop-next-test.false in
    let runs = subst (λ (xs : List Span). IsRunsFrom 0 xs) (sym c.deref-next-items.ensures.0) c.self.invariant in
    subst (λ (xs : List Span). IsRunsFrom 0 xs)
    (sym (c.loop-next.invariant ∙ ap (λ (xs : List Span). filter (is_apart c.args.range) xs) all))
    (filter_runs (is_apart c.args.range) c.deref-next-items.result.now 0 runs)

pub returns-clause-few : goal.returns-clause-few
returns-clause-few c =
    let all = all_taken c.deref-next-items.result.now c.loop-next.next-index c.loop-next-test.false in
    let same = ap (λ (xs : List Span). length xs) (c.loop-next.invariant ∙ ap (λ (xs : List Span). filter (is_apart c.args.range) xs) all) in
    let few = kept_length (is_apart c.args.range) c.deref-next-items.result.now in
    let old = ap (λ (xs : List Span). length xs) (c.deref-next-items.ensures.0 ∙ c.self.view_is) in
    omega (arith, same, few, old)
