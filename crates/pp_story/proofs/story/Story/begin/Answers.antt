use Rattle.std.proofs.Common.{refl, ◌∙◌, ap}
use Rattle.pp_traffic.specs.Meter.{new_meter}
use Rattle.pp_story.specs.Stories.{StoryState}
use Rattle.pp_story.proofs.Standings.{begun_again}
use Rattle.pp_story.proofs.story.Story.begin.Goals as goal

pub returns : goal.returns
returns c =
    begun_again c.args.self.now _ (c.forget-2.ensures.chunks ∙ ap (λ (k : StoryState). k.told.chunks) c.self.view_is)
    (record {
      chokes = refl;
      asks = c.forget.ensures.none;
      tells = c.forget-2.ensures.nothing;
      meters = c.begin.ensures ∙ ap (λ (k : StoryState). new_meter k.window.chunk) c.self.view_is;
    })
