use Rattle.std.proofs.Common.{Option, sym, subst, ◌∙◌}
use Rattle.pp_stage.specs.declared.turning.Running.{Running}
use Rattle.pp_actor.specs.Actor.{ActorState, ShowsActor}
use Rattle.pp_actor.proofs.actor.Actor.fail.Goals as goal

pub returns-clause-shows : goal.returns-clause-shows
returns-clause-shows c d most x shows =
    c.order.ensures.fails d most c.self.inside.number c.self.inside.start c.self.inside.lives.items x
    (subst (λ (o : Option Running). ShowsActor d most (record { number = c.self.inside.number; start = c.self.inside.start; disk = c.self.inside.disk; lives = c.self.inside.lives.items; running = o }) x)
    (sym c.take.ensures.value ∙ c.in-Some.is) (subst (λ (a : ActorState). ShowsActor d most a x) (sym c.self.view_is) shows))
