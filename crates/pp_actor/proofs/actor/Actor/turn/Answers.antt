use Rattle.std.proofs.Common.{Option, List, [], ◌∷◌, ◌++◌, sym, ◌∙◌, subst}
use Rattle.pp_outside.specs.declared.memory_disk.MemoryDisk.{MemoryDisk}
use Rattle.pp_stage.specs.Turned.{KeepsPromises, TurnsAs, post_of}
use Rattle.pp_stage.specs.declared.turning.Running.{Running}
use Rattle.pp_actor.specs.declared.life.Life.{Life}
use Rattle.pp_actor.specs.Actor.{ActorState, ActorTurns, ShowsActor}
use Rattle.pp_actor.proofs.Actors.{goes_on, stops_then}
use Rattle.pp_actor.proofs.actor.Actor.turn.Goals as goal

pub returns-then-goes_on-clause-turns : goal.returns-then-goes_on-clause-turns
returns-then-goes_on-clause-turns c d most x low shows hears =
    goes_on d c.args.cue most c.self.inside.number c.self.inside.start c.self.inside.disk c.self.inside.lives.items c.in-Some.running c.in_ok-disk.field-0
    (subst (λ (m : MemoryDisk). TurnsAs c.args.cue m c.in-Some.running c.in_ok-disk.field-0) c.replace-disk.ensures.value c.in_ok-disk.ensures.turns)
    (subst (λ (m : MemoryDisk). KeepsPromises c.in_ok-disk.field-0.goes_on (post_of c.in-Some.running m) (post_of c.in_ok-disk.field-0.running c.in_ok-disk.field-0.disk))
    c.replace-disk.ensures.value c.in_ok-disk.ensures.promises) c.book.ensures.tied x low
    (subst (λ (o : Option Running). ShowsActor d most (record { number = c.self.inside.number; start = c.self.inside.start; disk = c.self.inside.disk; lives = c.self.inside.lives.items; running = o }) x)
    (sym c.take.ensures.value ∙ c.in-Some.is) (subst (λ (a : ActorState). ShowsActor d most a x) (sym c.self.view_is) shows)) hears c.if-goes_on.true

pub returns-clause-turns : goal.returns-clause-turns
returns-clause-turns c d most x low shows hears =
    subst (λ (ls : List Life). ActorTurns d c.args.cue.clock most x (record { number = c.self.inside.number; start = c.self.inside.start; disk = c.in_ok-disk.field-0.disk; lives = ls; running = c.take.new.self })) (sym c.in_ok-push.ensures.items)
    (subst (λ (o : Option Running). ActorTurns d c.args.cue.clock most x
    (record { number = c.self.inside.number; start = c.self.inside.start; disk = c.in_ok-disk.field-0.disk; lives = c.self.inside.lives.items ++ c.ended.result ∷ []; running = o })) (sym c.take.ensures.after)
    (stops_then d c.args.cue most c.self.inside.number c.self.inside.start c.self.inside.disk c.self.inside.lives.items c.in-Some.running c.in_ok-disk.field-0
    (subst (λ (m : MemoryDisk). TurnsAs c.args.cue m c.in-Some.running c.in_ok-disk.field-0) c.replace-disk.ensures.value c.in_ok-disk.ensures.turns)
    (subst (λ (m : MemoryDisk). KeepsPromises c.in_ok-disk.field-0.goes_on (post_of c.in-Some.running m) (post_of c.in_ok-disk.field-0.running c.in_ok-disk.field-0.disk))
    c.replace-disk.ensures.value c.in_ok-disk.ensures.promises) c.book.ensures.tied x low
    (subst (λ (o : Option Running). ShowsActor d most (record { number = c.self.inside.number; start = c.self.inside.start; disk = c.self.inside.disk; lives = c.self.inside.lives.items; running = o }) x)
    (sym c.take.ensures.value ∙ c.in-Some.is) (subst (λ (a : ActorState). ShowsActor d most a x) (sym c.self.view_is) shows)) hears
    c.ended.result c.ended.ensures.link c.ended.ensures.book c.if-goes_on.false))
