use Rattle.std.proofs.Common.{◌≡◌, refl, ◌∙◌, ap, subst, arith, ◌++◌, ◌∷◌, [], vec_len, vec_capacity}
use Rattle.std.specs.List.Sorted.{IsNonDecreasing}
use Rattle.pp_terms.specs.tree.Range.{Span}
use Rattle.pp_news.proofs.Rising.{rising_tail}
use Rattle.pp_news.proofs.RunSteps.{runs_begin, runs_low, runs_extended, runs_closed, runs_end, runs_same, runs_rise, IsRunsOver}
use Rattle.pp_news.proofs.runs.list_runs.Goals as goal
use Rattle.pp_news.proofs.runs.list_runs.Goals.{then-chunk-last-gt1, else-chunk-last-gt1}

pub loop-chunk-init : goal.loop-chunk-init
loop-chunk-init c = record {
  steps = runs_begin c.in-Some.start.now c.in-Some.others.now c.clear.new.self.items c.clear.ensures.items
      (rising_tail c.in-Some.start.now c.in-Some.others.now (subst IsNonDecreasing c.in-Some.ensures.cases.0 c.requires.rising));
  few = omega arith;
  room = refl;
}

pub overflow_sub-chunk : goal.overflow_sub-chunk
overflow_sub-chunk c =
    let low = runs_low c.in-Some.start.now c.in-Some.others.now c.loop-chunk.chunk-index 0 c.loop-chunk.first c.loop-chunk.last 0 0 c.loop-chunk.ranges.items []
    c.loop-chunk-test.true c.loop-chunk.invariant.steps in omega (arith, low)

pub loop-chunk-preserved : goal.loop-chunk-preserved
loop-chunk-preserved c =
    elim c.if-chunk-last-gt1.branch [
      | then-chunk-last-gt1 w ↦ record {
        steps = runs_closed c.in-Some.start.now c.in-Some.others.now c.loop-chunk.chunk-index 0 c.loop-chunk.first c.loop-chunk.last _ _ c.loop-chunk.ranges.items
            _ c.loop-chunk-test.true c.loop-chunk.invariant.steps (omega arith)
            (ap (λ v. v.items) w.ranges-is ∙ w.push_reserved.ensures.items ∙ ap (λ (x : Span). c.loop-chunk.ranges.items ++ x ∷ []) w.range_of.ensures) w.first-is w.last-is;
        few = let size : vec_len c.if-chunk-last-gt1.ranges ≡ vec_len w.push_reserved.new.self = ap (λ v. vec_len v) w.ranges-is in
            let more = w.push_reserved.ensures.len in let few = c.loop-chunk.invariant.few in omega (arith, size, more, few);
        room = ap (λ v. vec_capacity v) w.ranges-is ∙ w.push_reserved.ensures.capacity ∙ c.loop-chunk.invariant.room;
      }
      | else-chunk-last-gt1 w ↦ record {
        steps = runs_extended c.in-Some.start.now c.in-Some.others.now c.loop-chunk.chunk-index 0 c.loop-chunk.first c.loop-chunk.last _ _ c.loop-chunk.ranges.items
            _ c.loop-chunk-test.true c.loop-chunk.invariant.steps (omega arith) (ap (λ v. v.items) w.ranges-is) w.first-is w.last-is;
        few = let size : vec_len c.if-chunk-last-gt1.ranges ≡ vec_len c.loop-chunk.ranges = ap (λ v. vec_len v) w.ranges-is in
            let few = c.loop-chunk.invariant.few in omega (arith, size, few);
        room = ap (λ v. vec_capacity v) w.ranges-is ∙ c.loop-chunk.invariant.room;
      }
    ]

over : (c : goal.After-push_reserved-2) → IsRunsOver c.in-Some.start.now c.in-Some.start.now c.in-Some.others.now c.push_reserved-2.new.self.items
over c = runs_end c.in-Some.start.now c.in-Some.others.now c.loop-chunk.chunk-index c.loop-chunk.first c.loop-chunk.last c.loop-chunk.ranges.items _
    (omega arith) c.loop-chunk.invariant.steps (c.push_reserved-2.ensures.items ∙ ap (λ (x : Span). c.loop-chunk.ranges.items ++ x ∷ []) c.range_of-2.ensures)

pub returns-clause-same : goal.returns-clause-same
returns-clause-same c = runs_same c.in-Some.start.now c.in-Some.others.now c.args.chunks.now _ c.in-Some.ensures.cases.0 (over c)

pub returns-clause-runs : goal.returns-clause-runs
returns-clause-runs c = runs_rise c.in-Some.start.now c.in-Some.others.now _ (over c)
