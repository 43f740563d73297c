use Rattle.pp_terms.specs.command.Tally.{other_lines}
use Rattle.pp_audit.proofs.ReportTexts.{reads_both}
use Rattle.pp_audit.proofs.reports.read_others.Goals as goal

pub returns : goal.returns
unfolding other_lines
returns c =
    reads_both _ _ _ _ _ c.read_line-left.ensures
    (reads_both _ _ _ _ _ c.read_line-left-2.ensures
    (reads_both _ _ _ _ _ c.read_line-left-3.ensures
    (reads_both _ _ _ _ _ c.read_line-left-4.ensures
    (reads_both _ _ _ _ _ c.read_line-left-5.ensures
    (reads_both _ _ _ _ _ c.read_line-left-6.ensures
    (reads_both _ _ _ _ _ c.read_line-left-7.ensures
    (reads_both _ _ _ _ _ c.read_line-left-8.ensures
    (reads_both _ _ _ _ _ c.read_line-left-9.ensures
    (reads_both _ _ _ _ _ c.read_line-left-10.ensures
    c.read_line.ensures)))))))))
