use Rattle.std.proofs.Common.{subst, List, ℕ}
use Rattle.pp_audit.specs.Reports.{Reads, left_of}
use Rattle.pp_audit.proofs.ReportTexts.{reads_both}
use Rattle.pp_audit.proofs.reports.read_range.Goals as goal

pub returns : goal.returns
returns c =
    reads_both _ _ _ _ _ (subst (λ (t : List ℕ). Reads t (left_of c.args.left) (left_of c.read-left.result)) c.comma.ensures c.read-left.ensures)
    (reads_both _ _ _ _ _ (reads_both _ _ _ _ _ c.read_number-left.ensures c.read-left-2.ensures) c.read_number.ensures)
