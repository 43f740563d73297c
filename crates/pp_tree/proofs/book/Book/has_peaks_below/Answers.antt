use Rattle.std.proofs.Common.{refl, sym, ◌∙◌, ap}
use Rattle.std.specs.Prelude.{is_some}
use Rattle.pp_tree.specs.Book.{entry}
use Rattle.pp_tree.proofs.PeakTests.{with_peak, without_peak, lacks_peak}
use Rattle.pp_tree.proofs.book.Book.has_peaks_below.Goals as goal
use Rattle.pp_tree.proofs.book.Book.has_peaks_below.Goals.{then-full-eq1+else-is_none, else-full-eq1}

pub loop-layer-init : goal.loop-layer-init
loop-layer-init c = refl

pub returns-then-is_none : goal.returns-then-is_none
returns-then-is_none c =
    sym (lacks_peak (entry c.args.self.now) c.args.chunks c.loop-layer.layer c.args.layers _
    refl c.if-full-eq1.true
    (ap (λ o. is_some o) (sym c.get.ensures.get) ∙ c.if-is_none.ensures) c.loop-layer-test.true)

pub loop-layer-preserved : goal.loop-layer-preserved
loop-layer-preserved c = elim c.if-full-eq1.branch [
  | then-full-eq1+else-is_none w ↦ with_peak (entry c.args.self.now) c.args.chunks c.loop-layer.layer _
      refl
      (ap (λ o. is_some o) (sym w.get.ensures.get) ∙ w.if-is_none.ensures) c.loop-layer.invariant
  | else-full-eq1 w ↦ without_peak (entry c.args.self.now) c.args.chunks c.loop-layer.layer _
      refl w.if-full-eq1.false c.loop-layer.invariant
]
