use Rattle.std.proofs.Common.{◌≡◌, ℕ, ◌<◌, Some, refl, sym, ◌∙◌, subst, ap, List, length}
use Rattle.std.specs.Prelude.{slice_get, slice_set}
use Rattle.std.proofs.lemmas.Option.{slice_get_read}
use Rattle.pp_actor.specs.Actor.{ActorState}
use Rattle.pp_world.specs.World.{Queued}
use Rattle.pp_play.specs.Stage.{StageState, HasHeard}
use Rattle.pp_play.specs.contracts.stage.Stage.{the_view}
use Rattle.pp_play.proofs.Stages.{ok_both}
use Rattle.pp_play.proofs.Turned.{came_as}
use Rattle.pp_play.proofs.stage.Stage.hear.Goals as goal

pub returns : goal.returns
returns c =
    let seen : StageState = the_view c.self.inside in
    let within : c.from.result < length seen.actors =
    subst (λ (i : ℕ). i < length seen.actors) (sym c.from.ensures) (subst (λ (s : StageState). c.args.peer < length s.actors) (sym c.self.view_is) c.requires) in
    let here : slice_get seen.actors c.args.peer ≡ Some c.index_mut.result.now =
    subst (λ (i : ℕ). slice_get seen.actors i ≡ Some c.index_mut.result.now) c.from.ensures
    (slice_get_read seen.actors (length seen.actors) c.from.result c.index_mut.result.now refl within c.index_mut.ensures.value) in
    let after : ActorState = c.turn.new.self in
    ok_both c.turn.result (λ turns part. subst (λ (s : StageState). HasHeard c.args.peer s (record seen { actors = slice_set seen.actors c.from.result after })) c.self.view_is
    (record {
      before = c.index_mut.result.now;
      after = after;
      part = part;
      was = here;
      is = ap (λ (i : ℕ). record seen { actors = slice_set seen.actors i after }) c.from.ensures;
      turns = λ most x low shows queue. turns seen.descriptor most x low shows (λ runs. came_as seen.clock c.oldest-came.result x.queue
          (c.oldest-came.ensures ∙ ap (λ (q : List Queued). slice_get q 0) queue));
    })) c.turn.ensures.turns c.turn.ensures.part
