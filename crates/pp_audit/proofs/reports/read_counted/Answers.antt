use Rattle.pp_audit.proofs.ReportTexts.{reads_both}
use Rattle.pp_audit.proofs.reports.read_counted.Goals as goal

pub returns : goal.returns
returns c = reads_both _ _ _ _ _ c.read-left.ensures c.read_number.ensures
