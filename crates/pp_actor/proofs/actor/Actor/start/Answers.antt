use Rattle.std.proofs.Common.{◌≡◌, ℕ, true, false, Option, List, refl, sym, ◌∙◌, ap, subst}
use Rattle.std.specs.Prelude.{IfSome, is_some, length}
use Rattle.pp_outside.specs.MemoryDisk as disks
use Rattle.pp_outside.specs.declared.memory_disk.MemoryDisk.{MemoryDisk}
use Rattle.pp_stage.specs.Opening.{Begins, LosesNothing, OpensAs}
use Rattle.pp_stage.specs.declared.opening.Start.{Start}
use Rattle.pp_stage.specs.declared.turning.Running.{Running}
use Rattle.pp_actor.specs.Actor.{ActorState, ShowsActor, next_start}
use Rattle.pp_actor.specs.Starting.{life_after, random_of}
use Rattle.pp_actor.specs.contracts.actor.Actor.{the_view}
use Rattle.pp_actor.proofs.Actors.{none_of, opens, some_of, stays_open}
use Rattle.pp_actor.proofs.actor.Actor.start.Goals as goal

pub returns-clause-opens : goal.returns-clause-opens
returns-clause-opens c most x low shows =
    let start : Start = record c.self.inside.start { random = c.random_of-self-inside.result } in
    opens c.args.descriptor.now most c.self.inside.number c.self.inside.start start c.self.inside.disk c.in_ok-disk.field-0.disk c.self.inside.lives.items c.in_ok-disk.field-0.running
    (subst (λ (m : MemoryDisk). OpensAs c.args.descriptor.now m c.in_ok-disk.field-0.disk c.in_ok-disk.field-0.running) c.replace-disk.ensures.value
    c.in_ok-disk.ensures.opens)
    (subst (λ (m : MemoryDisk). LosesNothing c.args.descriptor.now (disks.state_of m).history (disks.state_of c.in_ok-disk.field-0.disk).history)
    c.replace-disk.ensures.value c.in_ok-disk.ensures.lasts)
    (subst (λ (m : MemoryDisk). IfSome c.in_ok-disk.field-0.running
    (λ r. Begins c.args.descriptor.now start (disks.state_of m) (disks.state_of c.in_ok-disk.field-0.disk) r.peer))
    c.replace-disk.ensures.value c.in_ok-disk.ensures.begins) c.tell_book.ensures refl refl c.self.invariant.1 x low
    (subst (λ (o : Option Running). ShowsActor c.args.descriptor.now most (record { number = c.self.inside.number; start = c.self.inside.start; disk = c.self.inside.disk; lives = c.self.inside.lives.items; running = o }) x)
    (none_of c.self.inside.running (sym c.is_some.ensures ∙ c.if-is_some.false)) (subst (λ (a : ActorState). ShowsActor c.args.descriptor.now most a x) (sym c.self.view_is) shows))

pub returns-clause-begins : goal.returns-clause-begins
returns-clause-begins c none =
    let inside : ActorState = the_view c.self.inside in
    let bytes : c.random_of-self-inside.result ≡ random_of inside.number (life_after (length inside.lives)) =
    c.random_of-self-inside.ensures ∙ ap (random_of inside.number) (c.life_after.ensures ∙ ap life_after (c.len.ensures ∙ c.self.inside.lives.ok.0)) in
    subst (λ (a : ActorState). IfSome c.in_ok-disk.field-0.running
    (λ r. Begins c.args.descriptor.now (next_start a) (disks.state_of a.disk) (disks.state_of c.in_ok-disk.field-0.disk) r.peer)) c.self.view_is
    (subst (λ (b : List ℕ). IfSome c.in_ok-disk.field-0.running
    (λ r. Begins c.args.descriptor.now (record inside.start { random = b }) (disks.state_of inside.disk) (disks.state_of c.in_ok-disk.field-0.disk) r.peer)) bytes
    (subst (λ (m : MemoryDisk). IfSome c.in_ok-disk.field-0.running
    (λ r. Begins c.args.descriptor.now (record inside.start { random = c.random_of-self-inside.result }) (disks.state_of m)
    (disks.state_of c.in_ok-disk.field-0.disk) r.peer)) c.replace-disk.ensures.value c.in_ok-disk.ensures.begins))

pub returns-then-is_some-clause-begins : goal.returns-then-is_some-clause-begins
returns-then-is_some-clause-begins c none =
    let never : true ≡ false = c.if-is_some.ensures ∙ ap (λ (a : ActorState). is_some a.running) c.self.view_is ∙ ap is_some none in absurd cc

pub returns-then-is_some-clause-opens : goal.returns-then-is_some-clause-opens
returns-then-is_some-clause-opens c most x low shows =
    let it = some_of c.args.self.now.running (sym (c.if-is_some.ensures ∙ ap (λ (a : ActorState). is_some a.running) c.self.view_is)) in
    stays_open c.args.descriptor.now most c.args.self.now it.0 x it.1 shows
