use Rattle.std.proofs.Common.{sym, subst}
use Rattle.std.specs.Prelude.{length}
use Rattle.pp_world.specs.Move.{Make, moves_of_step}
use Rattle.pp_replay.specs.Views.{as_act, as_step}
use Rattle.pp_replay.specs.declared.types.Step.{Step}
use Rattle.pp_play.specs.Playing.{PlaysAs}
use Rattle.pp_play.proofs.Plays.{plays_one}
use Rattle.pp_play.proofs.Stages.{ok_then}
use Rattle.pp_play.proofs.stage.Stage.step.Goals as goal

pub returns-in-Once : goal.returns-in-Once
returns-in-Once c = ok_then c.act.result (λ moves.
    subst (λ (step : Step). PlaysAs (moves_of_step (length c.args.self.now.actors) (as_step step)) c.args.self.now c.act.new.self) (sym c.in-Once.is)
    (plays_one (Make (as_act c.in-Once.act)) c.args.self.now c.act.new.self moves)) c.act.ensures
