use Rattle.std.proofs.Common.{⊎_elim, sym, ◌∙◌, subst}
use Rattle.pp_actor.specs.Actor.{ActorState, ShowsActor}
use Rattle.pp_world.specs.Change.{with_stop}
use Rattle.pp_actor.proofs.Actors.{crashes, if_ok}
use Rattle.pp_actor.proofs.actor.Actor.crash.Goals as goal

pub returns-clause-shows : goal.returns-clause-shows
returns-clause-shows c = if_ok c.enough.result (λ ok d most x shows. ⊎_elim
    (λ is. crashes d most c.args.pick c.self.inside.number c.self.inside.start c.self.inside.disk c.crash.new.self c.self.inside.lives.items c.self.inside.running x is.0 c.crash.ensures.orders
    (subst (λ (a : ActorState). ShowsActor d most a (with_stop x)) (sym c.self.view_is) (c.in_ok-stop.ensures.shows d most x shows)))
    (λ is. let enough = sym c.short.ensures ∙ c.enough.ensures.0 ok in let short = is.1 in cc) c.crash.ensures.crashed)
