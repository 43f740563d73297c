use Rattle.pp_audit.specs.Reports.{left_of}
use Rattle.pp_audit.proofs.ReportSays.{held_said}
use Rattle.pp_audit.proofs.reports.is_held_line.Goals as goal

pub returns : goal.returns
returns c =
    let said = held_said c.args.set.now c.args.text.now (left_of c.read_held.result) c.read_held.ensures in (
      λ e. said.0 (c.ends_here.ensures.0 e),
      λ s. c.ends_here.ensures.1 (said.1 s),
    )
