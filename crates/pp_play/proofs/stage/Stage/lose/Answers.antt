use Rattle.std.proofs.Common.{refl, sym, ◌∙◌, subst, ap, List}
use Rattle.std.specs.Prelude.{◌<◌, length, drop}
use Rattle.pp_world.specs.Change.{with_loss}
use Rattle.pp_world.specs.Move.{Make}
use Rattle.pp_world.specs.Schedule as acts
use Rattle.pp_world.specs.World.{Queued}
use Rattle.pp_play.specs.Stage.{StageState, MovesAs, runs_at}
use Rattle.pp_play.specs.contracts.stage.Stage.{the_view}
use Rattle.pp_play.proofs.Stages.{is_here, queue_changes, queue_stays}
use Rattle.pp_play.proofs.stage.Stage.lose.Goals as goal

pub returns-then-is_running : goal.returns-then-is_running
returns-then-is_running c =
    let seen : StageState = the_view c.self.inside in
    let it = is_here c.args.peer seen.actors (subst (λ (s : StageState). c.args.peer < length s.actors) (sym c.self.view_is) c.requires) in
    subst (λ (s : StageState). MovesAs (Make (acts.Lose c.args.peer)) s (record seen { mail = c.lose.new.self })) c.self.view_is
    (subst (λ (mail : List (List Queued)). MovesAs (Make (acts.Lose c.args.peer)) seen (record seen { mail = mail })) (sym (c.lose.ensures))
    (queue_changes c.args.peer (Make (acts.Lose c.args.peer)) (with_loss) (drop 1) it.a seen (λ d w. refl) (λ x. refl) it.here
    (ap (λ (s : StageState). runs_at c.args.peer s.actors) c.self.view_is ∙ sym c.is_running.ensures ∙ c.if-is_running.true)))

pub returns-else-is_running : goal.returns-else-is_running
returns-else-is_running c =
    let seen : StageState = c.args.self.now in
    let it = is_here c.args.peer seen.actors c.requires in
    queue_stays c.args.peer (Make (acts.Lose c.args.peer)) (with_loss) (drop 1) it.a seen (λ d w. refl) (λ x. refl) it.here
    (sym c.is_running.ensures ∙ c.if-is_running.false)
