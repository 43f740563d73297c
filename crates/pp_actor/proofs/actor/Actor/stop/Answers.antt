use Rattle.std.proofs.Common.{Option, List, [], ◌∷◌, ◌++◌, sym, ◌∙◌, subst}
use Rattle.pp_world.specs.Change.{with_stop}
use Rattle.pp_stage.specs.declared.turning.Running.{Running}
use Rattle.pp_actor.specs.declared.life.Life.{Life}
use Rattle.pp_actor.specs.Actor.{ActorState, ShowsActor}
use Rattle.pp_actor.proofs.Actors.{stops}
use Rattle.pp_actor.proofs.actor.Actor.stop.Goals as goal

pub returns-in_ok-push-clause-shows : goal.returns-in_ok-push-clause-shows
returns-in_ok-push-clause-shows c d most x shows =
    subst (λ (ls : List Life). ShowsActor d most (record { number = c.self.inside.number; start = c.self.inside.start; disk = c.self.inside.disk; lives = ls; running = c.take.new.self }) (with_stop x))
    (sym c.in_ok-push.ensures.items)
    (subst (λ (o : Option Running). ShowsActor d most (record { number = c.self.inside.number; start = c.self.inside.start; disk = c.self.inside.disk; lives = c.self.inside.lives.items ++ c.ended.result ∷ []; running = o })
    (with_stop x)) (sym c.take.ensures.after)
    (stops d most c.self.inside.number c.self.inside.start c.self.inside.disk c.self.inside.lives.items c.in-Some.running c.ended.result x c.ended.ensures.link c.ended.ensures.book
    (subst (λ (o : Option Running). ShowsActor d most (record { number = c.self.inside.number; start = c.self.inside.start; disk = c.self.inside.disk; lives = c.self.inside.lives.items; running = o }) x)
    (sym c.take.ensures.value ∙ c.in-Some.is) (subst (λ (a : ActorState). ShowsActor d most a x) (sym c.self.view_is) shows))))
