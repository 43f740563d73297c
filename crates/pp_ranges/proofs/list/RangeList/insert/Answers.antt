use Rattle.std.proofs.Common.{◌+◌, ◌||◌, List, length, ◌∙◌, ap, subst, arith}
use Rattle.pp_terms.specs.tree.Range.{Span, within, has, IsRunsFrom}
use Rattle.pp_ranges.proofs.Runs.{inserted_edit, settled_ok, settled_runs, settled_full, settled_few}
use Rattle.pp_ranges.proofs.Lengths.{inserted_length}
use Rattle.pp_ranges.proofs.list.RangeList.insert.Goals as goal

pub settle-requires : goal.settle-requires
settle-requires c =
    (inserted_edit c.args.range c.deref.result.now c.self.inside.ranges.items c.deref-2.result.now
    (c.deref-2.ensures.0 ∙ c.merged-ranges.ensures) c.deref.ensures.0 c.first.ensures.order c.self.invariant).0

pub returns-clause-ok : goal.returns-clause-ok
returns-clause-ok c =
    let runs = subst (λ (xs : List Span). IsRunsFrom 0 xs) c.self.view_is c.self.invariant in
    let edit = inserted_edit c.args.range c.deref.result.now c.args.self.now c.deref-2.result.now
    (c.deref-2.ensures.0 ∙ c.merged-ranges.ensures) (c.deref.ensures.0 ∙ c.self.view_is) c.first.ensures.order runs in
    settled_ok c.settle.result c.settle.new.self c.deref-2.result.now (λ i. within c.args.range i || has c.args.self.now i)
    c.settle.ensures.ok edit.1

pub returns-clause-runs : goal.returns-clause-runs
returns-clause-runs c =
    let runs = subst (λ (xs : List Span). IsRunsFrom 0 xs) c.self.view_is c.self.invariant in
    let edit = inserted_edit c.args.range c.deref.result.now c.args.self.now c.deref-2.result.now
    (c.deref-2.ensures.0 ∙ c.merged-ranges.ensures) (c.deref.ensures.0 ∙ c.self.view_is) c.first.ensures.order runs in
    settled_runs c.settle.result _ c.settle.new.self c.deref-2.result.now c.settle.ensures.ok c.settle.ensures.err edit.0 runs

pub returns-clause-full : goal.returns-clause-full
returns-clause-full c =
    let runs = subst (λ (xs : List Span). IsRunsFrom 0 xs) c.self.view_is c.self.invariant in
    let edit = inserted_edit c.args.range c.deref.result.now c.args.self.now c.deref-2.result.now
    (c.deref-2.ensures.0 ∙ c.merged-ranges.ensures) (c.deref.ensures.0 ∙ c.self.view_is) c.first.ensures.order runs in
    settled_full c.settle.result _ c.settle.new.self c.deref-2.result.now (λ i. within c.args.range i || has c.args.self.now i)
    c.settle.ensures.ok c.settle.ensures.err edit.0 edit.1

pub returns-clause-few : goal.returns-clause-few
returns-clause-few c =
    let old = ap (λ (xs : List Span). length xs) (c.deref.ensures.0 ∙ c.self.view_is) in
    let within = ap (λ (xs : List Span). length xs) c.self.view_is in
    let few = inserted_length c.args.range c.deref.result.now in
    let same = ap (λ (xs : List Span). length xs) (c.deref-2.ensures.0 ∙ c.merged-ranges.ensures) in
    settled_few c.settle.result _ c.settle.new.self c.deref-2.result.now (length c.args.self.now + 1) c.settle.ensures.ok c.settle.ensures.err
    (omega (arith, old, few, same)) (omega (arith, within))
