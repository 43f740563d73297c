use Rattle.pp_counts.specs.Counts.{tally_of}
use Rattle.pp_audit.specs.Reports.{left_of}
use Rattle.pp_audit.proofs.ReportSays.{incomplete_said}
use Rattle.pp_audit.proofs.ReportTexts.{reads_both}
use Rattle.pp_audit.proofs.reports.is_incomplete_report.Goals as goal

pub returns : goal.returns
returns c =
    let said = incomplete_said c.args.set.now (tally_of c.args.counts.now) c.args.chunk c.args.text.now (left_of c.read_incomplete.result)
    (reads_both _ _ _ _ _ c.read_report-left.ensures c.read_incomplete.ensures) in (
      λ e. said.0 (c.ends_here.ensures.0 e),
      λ s. c.ends_here.ensures.1 (said.1 s),
    )
