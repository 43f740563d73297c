use Rattle.std.proofs.Common.{List, ap}
use Rattle.pp_learner.specs.declared.dials.Dial.{Dial}
use Rattle.pp_learner.proofs.parts.Parts.dial_at.Goals as goal

pub returns-clause-dials : goal.returns-clause-dials
returns-clause-dials g c = record {
  dial = c.dial-dial.result;
  there = c.dial-dial.ensures;
  from = c.dial_due-from.result;
  mid = record { parts = c.dial_due-from.new.self; link = g.L.Link.seen c.dial_due-from.new.link };
  steps = c.dial_due-from.ensures.steps;
  is = ap (λ (dials : List Dial). record { parts = record c.dial_due-from.new.self { dials = dials }; link = g.L.Link.seen c.dial_due-from.new.link }) c.set.ensures;
}
