use Rattle.std.proofs.Common.{◌≡◌, ℕ, List, ◌∷◌, ◌++◌, length, sym, ◌∙◌, ap, subst}
use Rattle.std.proofs.lemmas.List.{append_assoc}
use Rattle.std.specs.List.{AllByRecursion}
use Rattle.pp_world.specs.Move.{Move, moves_of_step, moves_of_steps}
use Rattle.pp_world.specs.Schedule as terms
use Rattle.pp_world.specs.Schedule.{IsStep}
use Rattle.pp_replay.specs.Views.{as_step}
use Rattle.pp_play.specs.Playing.{PlaysAs}
use Rattle.pp_play.proofs.Plays.{plays_more}
use Rattle.pp_play.proofs.stage.Stage.play.Goals as goal

pub loop-step-preserved : goal.loop-step-preserved
loop-step-preserved c =
    let peers : ℕ = length c.args.schedule.now.roles in
    let done : List Move = c.loop-step.invariant.0 in
    let step : terms.Step = as_step c.in-Some.step in
    let same : length c.loop-step.self.actors ≡ peers = c.loop-step.invariant.1.count ∙ c.requires.peers in
    let first : c.loop-step.steps ≡ step ∷ c.next_step.new.self = c.in-Some.ensures in (
      done ++ moves_of_step peers step,
      plays_more done (moves_of_step peers step) c.args.self.now c.loop-step.self c.step.new.self c.loop-step.invariant.1
          (subst (λ (n : ℕ). PlaysAs (moves_of_step n step) c.loop-step.self c.step.new.self) same c.in_ok-step.ensures),
      append_assoc done (moves_of_step peers step) (moves_of_steps peers c.next_step.new.self)
          ∙ ap (λ (steps : List terms.Step). done ++ moves_of_steps peers steps) (sym first) ∙ c.loop-step.invariant.2,
      (subst (AllByRecursion (IsStep peers)) first c.loop-step.invariant.3).1,
    )
