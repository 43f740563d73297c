use Rattle.std.proofs.Common.{◌≡◌, ℕ, ◌<◌, Some, refl, sym, subst, length}
use Rattle.std.specs.Prelude.{slice_get, slice_set}
use Rattle.std.proofs.lemmas.List.{length-set}
use Rattle.std.proofs.lemmas.Option.{slice_get_read}
use Rattle.pp_world.specs.Move.{Make}
use Rattle.pp_world.specs.Schedule as acts
use Rattle.pp_actor.specs.Actor.{ActorState}
use Rattle.pp_play.specs.Stage.{HasStarted, StageState, MovesAs}
use Rattle.pp_play.specs.contracts.stage.Stage.{the_view}
use Rattle.pp_play.proofs.Stages.{ok_both, ok_then}
use Rattle.pp_play.proofs.Turned.{put_there, stands, starts}
use Rattle.pp_play.proofs.stage.Stage.start.Goals as goal

pub returns-clause-moves : goal.returns-clause-moves
returns-clause-moves c =
    let seen : StageState = the_view c.self.inside in
    let within : c.from.result < length seen.actors =
    subst (λ (i : ℕ). i < length seen.actors) (sym c.from.ensures) (subst (λ (s : StageState). c.args.peer < length s.actors) (sym c.self.view_is) c.requires) in
    let here : slice_get seen.actors c.args.peer ≡ Some c.index_mut.result.now =
    subst (λ (i : ℕ). slice_get seen.actors i ≡ Some c.index_mut.result.now) c.from.ensures
    (slice_get_read seen.actors (length seen.actors) c.from.result c.index_mut.result.now refl within c.index_mut.ensures.value) in
    let after : ActorState = c.start.new.self in
    ok_both c.start.result (λ opens part. subst (λ (s : StageState). MovesAs (Make (acts.Start c.args.peer)) s (record seen { actors = slice_set seen.actors c.from.result after })) c.self.view_is
    (subst (λ (i : ℕ). MovesAs (Make (acts.Start c.args.peer)) seen (record seen { actors = slice_set seen.actors i after })) (sym c.from.ensures)
    (starts c.args.peer c.index_mut.result.now after seen here (length-set seen.actors c.args.peer after) part opens))) c.start.ensures.opens c.start.ensures.part

pub returns-clause-started : goal.returns-clause-started
returns-clause-started c =
    let seen : StageState = the_view c.self.inside in
    let within : c.args.peer < length seen.actors = subst (λ (s : StageState). c.args.peer < length s.actors) (sym c.self.view_is) c.requires in
    let here : slice_get seen.actors c.args.peer ≡ Some c.index_mut.result.now =
    stands seen.actors c.from.result c.args.peer c.index_mut.result.now c.from.ensures within c.index_mut.ensures.value in
    let after : ActorState = c.start.new.self in
    ok_then c.start.result (λ begins.
    subst (λ (s : StageState). HasStarted c.args.peer s (record seen { actors = slice_set seen.actors c.from.result after })) c.self.view_is
    (subst (λ (i : ℕ). HasStarted c.args.peer seen (record seen { actors = slice_set seen.actors i after })) (sym c.from.ensures)
    (record { before = c.index_mut.result.now; after = after; was = here; is = put_there c.args.peer seen.actors after within; begins = begins }))) c.start.ensures.begins
