use Rattle.pp_audit.proofs.ReportTexts.{reads_both}
use Rattle.pp_audit.proofs.reports.read_report.Goals as goal

pub returns : goal.returns
returns c = reads_both _ _ _ _ _ c.read_held-left.ensures (reads_both _ _ _ _ _ c.read_first-left.ensures c.read_others.ensures)
