use Rattle.pp_audit.proofs.ReportTexts.{reads_both}
use Rattle.pp_audit.proofs.reports.read_line.Goals as goal

pub returns : goal.returns
returns c = reads_both _ _ _ _ _ c.read_counted-left.ensures c.read.ensures
