use Rattle.std.proofs.Common.{refl, ◌∙◌}
use Rattle.pp_story.proofs.Standings.{begun}
use Rattle.pp_story.proofs.story.Story.new.Goals as goal

pub returns : goal.returns
returns c =
    begun _ c.chunk.result c.args.descriptor.now
    (record { chokes = refl; asks = c.in_ok-asked.ensures.none; tells = c.in_ok-told.ensures.nothing; meters = c.new-window.ensures })
    (c.in_ok-told.ensures.chunks ∙ c.chunks-chunks.ensures.chunks) c.chunk.ensures.chunk
