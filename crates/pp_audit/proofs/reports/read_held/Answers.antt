use Rattle.std.proofs.Common.{◌++◌, ℕ, subst, codes, decimal}
use Rattle.pp_terms.specs.command.Report.{held_line}
use Rattle.pp_audit.specs.Reports.{Reads, left_of}
use Rattle.pp_audit.proofs.ReportTexts.{reads_both}
use Rattle.pp_audit.proofs.reports.read_held.Goals as goal

pub returns : goal.returns
unfolding held_line
returns c =
    let held = subst (λ (n : ℕ). Reads (codes "held " ++ decimal n) (left_of c.args.left) (left_of c.read_counted-left.result))
    c.count_in.ensures c.read_counted-left.ensures in
    reads_both _ _ _ _ _ (reads_both _ _ _ _ _ (reads_both _ _ _ _ _ (reads_both _ _ _ _ _ (reads_both _ _ _ _ _ held
    c.read-left.ensures) c.read_number-left.ensures) c.read-left-2.ensures) c.read_ranges-left.ensures) c.read.ensures
