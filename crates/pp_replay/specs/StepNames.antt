-- Words that name steps.
use Rattle.std.specs.Prelude.{ℕ, List, Option, Some, None, Result, if◌then◌else◌, codes}
use Rattle.std.specs.Str.{bytes_eq}
use Rattle.pp_world.specs.Schedule as terms
use Rattle.pp_world.specs.ScheduleFault.{ScheduleKind}
use Rattle.pp_world.specs.ScheduleRead.{one_peer, run_in, forge_in, fail_in, crash_in}
use Rattle.pp_replay.specs.declared.names.StepName.{StepName}
use Rattle.pp_replay.specs.declared.names.StepName.TheVariants.{Turn, Run, Lose, Repeat, Later, Forge, Fail, Crash, Stop, Start}

abbrev pub step_named : List ℕ → Option StepName
step_named word =
    if bytes_eq word (codes "turn") then Some Turn
    else (if bytes_eq word (codes "run") then Some Run
    else (if bytes_eq word (codes "lose") then Some Lose
    else (if bytes_eq word (codes "repeat") then Some Repeat
    else (if bytes_eq word (codes "later") then Some Later
    else (if bytes_eq word (codes "forge") then Some Forge
    else (if bytes_eq word (codes "fail") then Some Fail
    else (if bytes_eq word (codes "crash") then Some Crash
    else (if bytes_eq word (codes "stop") then Some Stop
    else (if bytes_eq word (codes "start") then Some Start
    else None)))))))))

-- the words behind the name
abbrev pub step_for : StepName → ℕ → List (List ℕ) → Result terms.Step ScheduleKind
step_for Turn peers rest = one_peer peers terms.Turn rest
step_for Run peers rest = run_in rest
step_for Lose peers rest = one_peer peers terms.Lose rest
step_for Repeat peers rest = one_peer peers terms.Repeat rest
step_for Later peers rest = one_peer peers terms.Later rest
step_for Forge peers rest = forge_in peers rest
step_for Fail peers rest = fail_in peers rest
step_for Crash peers rest = crash_in peers rest
step_for Stop peers rest = one_peer peers terms.Stop rest
step_for Start peers rest = one_peer peers terms.Start rest
