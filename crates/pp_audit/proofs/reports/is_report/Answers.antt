use Rattle.pp_counts.specs.Counts.{tally_of}
use Rattle.pp_audit.specs.Reports.{left_of}
use Rattle.pp_audit.proofs.ReportSays.{report_said}
use Rattle.pp_audit.proofs.reports.is_report.Goals as goal

pub returns : goal.returns
returns c =
    let said = report_said c.args.set.now (tally_of c.args.counts.now) c.args.text.now (left_of c.read_report.result)
    c.read_report.ensures in (
      λ e. said.0 (c.ends_here.ensures.0 e),
      λ s. c.ends_here.ensures.1 (said.1 s),
    )
