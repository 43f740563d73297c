use Rattle.std.proofs.Common.{◌+◌, not, ◌&&◌, List, length, ◌∙◌, ap, subst, arith}
use Rattle.pp_ranges.specs.Edits.{removed}
use Rattle.pp_terms.specs.tree.Range.{Span, within, has, IsRunsFrom}
use Rattle.pp_ranges.proofs.Runs.{removed_edit, settled_ok, settled_runs, settled_full, settled_few, settled_front}
use Rattle.pp_ranges.proofs.Lengths.{removed_few, removed_front}
use Rattle.pp_ranges.proofs.list.RangeList.remove.Goals as goal

pub settle-requires : goal.settle-requires
settle-requires c =
    (removed_edit c.args.range c.deref.result.now c.self.inside.ranges.items c.deref-2.result.now
    (c.deref-2.ensures.0 ∙ c.without-ranges.ensures) c.deref.ensures.0 c.first.ensures.order c.self.invariant).0

pub returns-clause-ok : goal.returns-clause-ok
returns-clause-ok c =
    let runs = subst (λ (xs : List Span). IsRunsFrom 0 xs) c.self.view_is c.self.invariant in
    let edit = removed_edit c.args.range c.deref.result.now c.args.self.now c.deref-2.result.now
    (c.deref-2.ensures.0 ∙ c.without-ranges.ensures) (c.deref.ensures.0 ∙ c.self.view_is) c.first.ensures.order runs in
    settled_ok c.settle.result c.settle.new.self c.deref-2.result.now (λ i. not (within c.args.range i) && has c.args.self.now i)
    c.settle.ensures.ok edit.1

pub returns-clause-runs : goal.returns-clause-runs
returns-clause-runs c =
    let runs = subst (λ (xs : List Span). IsRunsFrom 0 xs) c.self.view_is c.self.invariant in
    let edit = removed_edit c.args.range c.deref.result.now c.args.self.now c.deref-2.result.now
    (c.deref-2.ensures.0 ∙ c.without-ranges.ensures) (c.deref.ensures.0 ∙ c.self.view_is) c.first.ensures.order runs in
    settled_runs c.settle.result _ c.settle.new.self c.deref-2.result.now c.settle.ensures.ok c.settle.ensures.err edit.0 runs

pub returns-clause-full : goal.returns-clause-full
returns-clause-full c =
    let runs = subst (λ (xs : List Span). IsRunsFrom 0 xs) c.self.view_is c.self.invariant in
    let edit = removed_edit c.args.range c.deref.result.now c.args.self.now c.deref-2.result.now
    (c.deref-2.ensures.0 ∙ c.without-ranges.ensures) (c.deref.ensures.0 ∙ c.self.view_is) c.first.ensures.order runs in
    settled_full c.settle.result _ c.settle.new.self c.deref-2.result.now (λ i. not (within c.args.range i) && has c.args.self.now i)
    c.settle.ensures.ok c.settle.ensures.err edit.0 edit.1

pub returns-clause-few : goal.returns-clause-few
returns-clause-few c =
    let runs = subst (λ (xs : List Span). IsRunsFrom 0 xs) c.self.view_is c.self.invariant in
    let few = removed_few c.args.range c.args.self.now 0 c.first.ensures.order runs in
    let same = ap (λ (xs : List Span). length xs) (c.deref-2.ensures.0 ∙ c.without-ranges.ensures ∙ ap (removed c.args.range) (c.deref.ensures.0 ∙ c.self.view_is)) in
    let within = ap (λ (xs : List Span). length xs) c.self.view_is in
    settled_few c.settle.result _ c.settle.new.self c.deref-2.result.now (length c.args.self.now + 1) c.settle.ensures.ok c.settle.ensures.err
    (omega (arith, few, same)) (omega (arith, within))

pub returns-clause-front : goal.returns-clause-front
returns-clause-front c none =
    let runs = subst (λ (xs : List Span). IsRunsFrom 0 xs) c.self.view_is c.self.invariant in
    let few = removed_front c.args.range c.args.self.now 0 c.first.ensures.order runs none in
    let same = ap (λ (xs : List Span). length xs) (c.deref-2.ensures.0 ∙ c.without-ranges.ensures ∙ ap (removed c.args.range) (c.deref.ensures.0 ∙ c.self.view_is)) in
    let old = ap (λ (xs : List Span). length xs) (c.deref.ensures.0 ∙ c.self.view_is) in
    settled_front c.settle.result _ c.settle.new.self c.deref-2.result.now (length c.args.self.now) c.settle.ensures.ok c.settle.ensures.err
    (omega (arith, few, same)) (omega (arith, old, c.deref.ensures.1))
