use Rattle.std.proofs.Common.{inl, inr, sym, ◌∙◌, ap, subst, arith, length, List}
use Rattle.pp_terms.specs.tree.Range.{Span, has, IsRunsFrom}
use Rattle.pp_agenda.proofs.Awaiting.{both_more}
use Rattle.pp_agenda.proofs.ranges.awaited_ranges.Goals as goal
use Rattle.pp_agenda.proofs.ranges.awaited_ranges.Goals.{then-is_committed, else-is_committed}

pub loop-one-preserved : goal.loop-one-preserved
loop-one-preserved c = record {
  runs = elim c.if-is_committed.branch [
    | then-is_committed w ↦ subst (IsRunsFrom 0) (sym w.ranges-is) w.add.ensures.runs
    | else-is_committed w ↦ subst (IsRunsFrom 0) (sym w.ranges-is) c.loop-one.invariant.runs
  ];
  few = elim c.if-is_committed.branch [
    | then-is_committed w ↦ omega (arith, ap (λ (xs : List Span). length xs) w.ranges-is)
    | else-is_committed w ↦ omega (arith, ap (λ (xs : List Span). length xs) w.ranges-is)
  ];
  each = both_more c.args.awaited.now c.args.committed.now c.loop-one.one-index _ c.loop-one.ranges c.if-is_committed.ranges c.loop-one-test.true c.loop-one.invariant.each
      (elim c.if-is_committed.branch [
        | then-is_committed w ↦ inl (sym c.is_committed.ensures ∙ w.if-is_committed.true, λ j. ap (λ (xs : List Span). has xs j) w.ranges-is ∙ w.add.ensures.each j)
        | else-is_committed w ↦ inr (sym c.is_committed.ensures ∙ w.if-is_committed.false, w.ranges-is)
      ]);
}
