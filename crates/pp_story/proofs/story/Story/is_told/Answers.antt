use Rattle.std.proofs.Common.{ap, ◌∙◌}
use Rattle.pp_tree.specs.Node.{node_of}
use Rattle.pp_plan.specs.Told.{knows}
use Rattle.pp_story.specs.Stories.{StoryState}
use Rattle.pp_story.proofs.story.Story.is_told.Goals as goal

pub returns : goal.returns
returns c = λ d s is. c.has.ensures ∙ ap (λ (k : StoryState). knows k.told (node_of c.args.node)) c.self.view_is ∙ is.tells (node_of c.args.node)
