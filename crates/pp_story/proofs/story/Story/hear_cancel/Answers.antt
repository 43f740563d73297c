use Rattle.pp_wire.specs.Views.{span_of}
use Rattle.pp_story.proofs.Steps.{hears_by, hears_cancel}
use Rattle.pp_story.proofs.story.Story.hear_cancel.Goals as goal

pub returns : goal.returns
returns c = λ now. hears_by c.self.view_is (hears_cancel _ c.withdraw.new.self (span_of c.args.span) now c.self.invariant c.withdraw.ensures.bits)
