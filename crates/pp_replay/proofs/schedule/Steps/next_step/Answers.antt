use Rattle.std.proofs.Common.{sym, ◌∙◌}
use Rattle.pp_replay.specs.Lines.{as_row}
use Rattle.pp_replay.specs.Views.{as_step}
use Rattle.pp_replay.proofs.StepLines.{next_left}
use Rattle.pp_replay.proofs.schedule.Steps.next_step.Goals as goal

pub invariant_of-self : goal.invariant_of-self
invariant_of-self c =
    (next_left c.self.inside.peers c.self.inside.text.now c.in_ok-row.behind.now (as_row c.in_ok-row.row) (as_step c.in-Ok.step) c.in_ok-row.ensures.0
    c.in-Ok.ensures.step c.self.invariant).0

pub returns : goal.returns
returns c =
    sym c.self.view_is
    ∙ (next_left c.self.inside.peers c.self.inside.text.now c.in_ok-row.behind.now (as_row c.in_ok-row.row) (as_step c.in-Ok.step) c.in_ok-row.ensures.0
    c.in-Ok.ensures.step c.self.invariant).1
