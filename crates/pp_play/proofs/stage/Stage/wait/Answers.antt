use Rattle.std.proofs.Common.{ℕ, sym, subst}
use Rattle.pp_world.specs.Move.{Wait}
use Rattle.pp_play.specs.Stage.{StageState, MovesAs}
use Rattle.pp_play.specs.contracts.stage.Stage.{the_view}
use Rattle.pp_play.proofs.Stages.{waits}
use Rattle.pp_play.proofs.stage.Stage.wait.Goals as goal

pub returns : goal.returns
returns c =
    let seen : StageState = the_view c.self.inside in
    subst (λ (s : StageState). MovesAs (Wait c.args.gain) s (record seen { clock = c.in-Some.clock })) c.self.view_is
    (subst (λ (n : ℕ). MovesAs (Wait c.args.gain) seen (record seen { clock = n })) (sym c.in-Some.ensures.1) (waits c.args.gain seen))
