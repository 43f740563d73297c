use Rattle.pp_wire.specs.Views.{span_of}
use Rattle.pp_story.proofs.Steps.{hears_by, hears_have}
use Rattle.pp_story.proofs.story.Story.hear_have.Goals as goal

pub returns : goal.returns
returns c = λ now. hears_by c.self.view_is (hears_have _ c.tell.new.told (span_of c.args.span) now c.tell.ensures.chunks c.tell.ensures.more)
