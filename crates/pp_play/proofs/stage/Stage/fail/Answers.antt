use Rattle.std.proofs.Common.{◌≡◌, ℕ, ◌<◌, Some, refl, sym, subst, length}
use Rattle.std.specs.Prelude.{slice_get, slice_set}
use Rattle.std.proofs.lemmas.List.{length-set}
use Rattle.std.proofs.lemmas.Option.{slice_get_read}
use Rattle.pp_replay.specs.Views.{as_device}
use Rattle.pp_world.specs.Change.{while_running, with_failing}
use Rattle.pp_world.specs.Move.{Make}
use Rattle.pp_world.specs.Schedule as acts
use Rattle.pp_actor.specs.Actor.{ActorState}
use Rattle.pp_play.specs.Stage.{StageState, MovesAs}
use Rattle.pp_play.specs.contracts.stage.Stage.{the_view}
use Rattle.pp_play.proofs.Stages.{actor_changes, failing_queue, queue_while_running}
use Rattle.pp_play.proofs.stage.Stage.fail.Goals as goal

pub returns : goal.returns
returns c =
    let seen : StageState = the_view c.self.inside in
    let within : c.from.result < length seen.actors =
    subst (λ (i : ℕ). i < length seen.actors) (sym c.from.ensures) (subst (λ (s : StageState). c.args.peer < length s.actors) (sym c.self.view_is) c.requires) in
    let here : slice_get seen.actors c.args.peer ≡ Some c.index_mut.result.now =
    subst (λ (i : ℕ). slice_get seen.actors i ≡ Some c.index_mut.result.now) c.from.ensures
    (slice_get_read seen.actors (length seen.actors) c.from.result c.index_mut.result.now refl within c.index_mut.ensures.value) in
    let after : ActorState = c.fail.new.self in
    subst (λ (s : StageState). MovesAs (Make (acts.Fail c.args.peer (as_device c.args.call))) s (record seen { actors = slice_set seen.actors c.from.result after })) c.self.view_is
    (subst (λ (i : ℕ). MovesAs (Make (acts.Fail c.args.peer (as_device c.args.call))) seen (record seen { actors = slice_set seen.actors i after })) (sym c.from.ensures)
    (actor_changes c.args.peer (Make (acts.Fail c.args.peer (as_device c.args.call))) (while_running (with_failing (as_device c.args.call))) c.index_mut.result.now after seen (λ d w. refl)
    (λ x. queue_while_running (with_failing (as_device c.args.call)) x (failing_queue (as_device c.args.call) x)) here (length-set seen.actors c.args.peer after) c.fail.ensures.part c.fail.ensures.shows))
