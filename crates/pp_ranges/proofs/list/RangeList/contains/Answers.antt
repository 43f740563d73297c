use Rattle.std.proofs.Common.{◌≡◌, true, false, List, sym, ◌∙◌, ap, arith}
use Rattle.std.proofs.lemmas.Bool.Decides.{nat_tests}
use Rattle.pp_terms.specs.tree.Range.{Span, within, has}
use Rattle.pp_ranges.proofs.Runs.{has_at, has_not_more}
use Rattle.pp_ranges.proofs.list.RangeList.contains.Goals as goal
use Rattle.pp_ranges.proofs.list.RangeList.contains.Goals.{else-first-i-via-then-first-i+else-i-last, else-first-i-via-else-first-i}

pub returns-then-i-last : goal.returns-then-i-last
returns-then-i-last c =
    let inside : within c.range-item.result c.args.i ≡ true = grind (arith, nat_tests) in
    sym (ap (λ (xs : List Span). has xs c.args.i) (sym (c.deref-range-items.ensures.0 ∙ c.self.view_is))
    ∙ has_at c.deref-range-items.result.now c.loop-range.range-index c.args.i c.range-item.result c.loop-range-test.true c.range-item.is inside)

pub loop-range-preserved : goal.loop-range-preserved
loop-range-preserved c =
    let outside : within c.range-item.result c.args.i ≡ false = elim c.else-first-i.branch [
      | else-first-i-via-then-first-i+else-i-last w ↦ grind (arith, nat_tests)
      | else-first-i-via-else-first-i w ↦ grind (arith, nat_tests)
    ] in
    has_not_more c.deref-range-items.result.now c.loop-range.range-index c.args.i c.range-item.result c.loop-range-test.true
    c.range-item.is outside c.loop-range.invariant
