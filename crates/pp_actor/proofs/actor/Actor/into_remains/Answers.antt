use Rattle.std.proofs.Common.{ap, subst}
use Rattle.pp_actor.specs.Actor.{ActorState}
use Rattle.pp_actor.specs.Keeping.{AllKeep, Part}
use Rattle.pp_actor.proofs.Actors.{remains, runs, survives}
use Rattle.pp_actor.proofs.actor.Actor.into_remains.Goals as goal

pub returns-clause-remains : goal.returns-clause-remains
returns-clause-remains c d most x shows =
    remains d most c.stop.new.self x (record { disk = c.self.inside.disk; lives = c.self.inside.lives }) (ap (λ (a : ActorState). a.disk) c.self.view_is)
    (ap (λ (a : ActorState). a.lives) c.self.view_is) (c.in_ok-stop.ensures.shows d most x shows)

pub returns-clause-survives : goal.returns-clause-survives
returns-clause-survives c d most x shows = survives d most c.stop.new.self x (c.in_ok-stop.ensures.shows d most x shows)

pub returns-clause-runs : goal.returns-clause-runs
returns-clause-runs c d most x shows =
    subst (λ (p : Part). AllKeep d p x.disk x.sessions) c.in_ok-stop.ensures.part (runs d most c.stop.new.self x (c.in_ok-stop.ensures.shows d most x shows))
