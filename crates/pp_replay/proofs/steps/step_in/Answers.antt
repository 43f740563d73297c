use Rattle.std.proofs.Common.{Option, sym, ◌∙◌, ap}
use Rattle.pp_world.specs.ScheduleFault as wrong
use Rattle.pp_world.specs.ScheduleRead.{◌>>=◌, found, step_in}
use Rattle.pp_replay.specs.declared.names.StepName.{StepName}
use Rattle.pp_replay.specs.Lines.{words_left}
use Rattle.pp_replay.specs.StepNames.{step_for}
use Rattle.pp_replay.proofs.StepWords.{step_of_is}
use Rattle.pp_replay.proofs.steps.step_in.Goals as goal

pub returns-in-Some : goal.returns-in-Some
returns-in-Some c =
    let name = c.first_word.result.0.now in
    let rest = words_left c.first_word.result.1 in
    c.step_for.ensures
    ∙ sym (ap (step_in c.args.peers) c.first_word.ensures ∙ step_of_is c.args.peers name rest
    ∙ ap (λ (o : Option StepName). found wrong.Line o >>= λ n. step_for n c.args.peers rest) (sym c.step_named.ensures ∙ c.in-Some.is))
