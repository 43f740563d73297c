use Rattle.pp_story.proofs.Steps.{says_by, says_unchoke}
use Rattle.pp_story.proofs.story.Story.say_unchoke.Goals as goal

pub returns : goal.returns
returns c = λ now. says_by c.self.view_is (says_unchoke _ now)
