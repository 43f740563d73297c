use Rattle.pp_story.proofs.Steps.{says_by, says_data}
use Rattle.pp_story.proofs.story.Story.say_data.Goals as goal

pub returns-clause-said : goal.returns-clause-said
returns-clause-said c = λ sent_at bytes.
    says_by c.self.view_is
    (says_data _ c.withdraw.new.self c.send.new.self c.args.chunk c.args.now sent_at bytes c.self.invariant c.withdraw.ensures.bits c.in_ok-send.ensures.sent)
