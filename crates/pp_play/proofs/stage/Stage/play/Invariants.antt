use Rattle.std.specs.Prelude.{◌≡◌, List, ◌++◌, length}
use Rattle.std.specs.List.{AllByRecursion}
use Rattle.pp_world.specs.Move.{Move, moves_of, moves_of_steps}
use Rattle.pp_world.specs.Schedule.{IsStep}
use Rattle.pp_play.specs.Playing.{PlaysAs}
use Rattle.pp_play.proofs.stage.Stage.play.Given as goal

-- What was done so far, and what the steps that are left do, are all moves.
abbrev pub invariant-loop-step : goal.invariant-loop-step
invariant-loop-step l =
    (done : List Move) × PlaysAs done l.fn.self l.self × (done ++ moves_of_steps (length l.schedule.roles) l.steps ≡ moves_of l.schedule)
    × AllByRecursion (IsStep (length l.schedule.roles)) l.steps

abbrev pub decreases-loop-step : goal.decreases-loop-step
decreases-loop-step l = length l.steps
