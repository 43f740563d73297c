use Rattle.pp_story.proofs.Steps.{says_by, says_choke}
use Rattle.pp_story.proofs.story.Story.say_choke.Goals as goal

pub returns : goal.returns
returns c = λ now. says_by c.self.view_is (says_choke _ c.forget.new.self now c.forget.ensures.none)
