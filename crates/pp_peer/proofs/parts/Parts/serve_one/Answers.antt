use Rattle.std.proofs.Common.{ap, refl, sym, ◌∙◌}
use Rattle.std.specs.Prelude.{Option}
use Rattle.pp_counts.specs.declared.note.Note.{Note}
use Rattle.pp_peer.specs.Taking.{after_some}
use Rattle.pp_peer.proofs.Chunks.{flushes_served, serving_of}
use Rattle.pp_peer.proofs.parts.Parts.serve_one.Goals as goal

pub returns-in-Some-clause-flushes : goal.returns-in-Some-clause-flushes
returns-in-Some-clause-flushes g c =
    flushes_served c.args.seat c.serve-served.result _ _ _ _ _ _ (record {
      holding = refl;
      fetching = refl;
      counts = c.note.ensures.counts ∙ ap (λ (o : Option Note). after_some o c.args.self.now.counts) (sym c.in-Some.is ∙ c.counted.ensures);
    }) (serving_of c.args.seat c.serve-served.result _ _ _ _ _ _ _ _ _ _ c.store.ensures.same c.book.ensures.same c.serve-served.ensures)

pub returns-in-None-clause-flushes : goal.returns-in-None-clause-flushes
returns-in-None-clause-flushes g c =
    flushes_served c.args.seat c.serve-served.result _ _ _ _ _ _ (record {
      holding = refl;
      fetching = refl;
      counts = ap (λ (o : Option Note). after_some o c.args.self.now.counts) (sym c.in-None.is ∙ c.counted.ensures);
    }) (serving_of c.args.seat c.serve-served.result _ _ _ _ _ _ _ _ _ _ c.store.ensures.same c.book.ensures.same c.serve-served.ensures)
