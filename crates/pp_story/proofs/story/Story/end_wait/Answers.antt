use Rattle.pp_story.proofs.Standings.{waited, waited_by}
use Rattle.pp_story.proofs.story.Story.end_wait.Goals as goal

pub returns : goal.returns
returns c = waited_by c.self.view_is (waited c.args.now _ c.end_wait.new.self c.end_wait.ensures)
