use Rattle.std.proofs.Common.{ℕ, [], ◌∷◌, refl, sym, ◌∙◌, ap}
use Rattle.std.specs.Prelude.{position}
use Rattle.pp_channels.specs.Timing.{is_over}
use Rattle.pp_learner.specs.declared.parts.Parts.{Parts}
use Rattle.pp_learner.proofs.Dropping.{fewer, drops_first}
use Rattle.pp_learner.proofs.parts.Parts.expire.Goals as goal

pub over-smaller : goal.over-smaller
over-smaller c = fewer c.over.self.lives c.close.new.self c.in-Some.seat c.in-Some.ensures.used c.close.ensures

pub over-preserved : goal.over-preserved
over-preserved c = record {
  drops = λ seats new d. c.over.invariant.drops (c.in-Some.seat ∷ seats) new
      (drops_first c.args.self.now.moment c.in-Some.seat c.over.self.lives c.close.new.self new seats
      (sym c.in-Some.is ∙ c.expired.ensures.seat ∙ ap (λ (n : ℕ). position (is_over n) c.over.self.lives.channels) (ap (λ (p : Parts). p.moment) c.over.invariant.rest)) c.close.ensures d);
  rest = ap (λ (p : Parts). record p { lives = c.close.new.self }) c.over.invariant.rest;
}

pub returns-clause-drops : goal.returns-clause-drops
returns-clause-drops c = c.over.invariant.drops [] c.over.self.lives (refl, sym (sym c.in_default.is ∙ c.expired.ensures.seat ∙ ap (λ (n : ℕ). position (is_over n) c.over.self.lives.channels) (ap (λ (p : Parts). p.moment) c.over.invariant.rest)))
