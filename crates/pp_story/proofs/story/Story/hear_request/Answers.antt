use Rattle.pp_wire.specs.Views.{span_of}
use Rattle.pp_story.proofs.Steps.{hears_by, hears_request}
use Rattle.pp_story.proofs.story.Story.hear_request.Goals as goal

pub returns-then-not-self : goal.returns-then-not-self
returns-then-not-self c =
    λ now. hears_by c.self.view_is (hears_request _ c.ask.new.self (span_of c.args.span) now c.self.invariant c.if-not-self.true c.ask.ensures.bits)
