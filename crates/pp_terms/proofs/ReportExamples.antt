-- Worked examples of the lines that the program prints.
use Rattle.std.proofs.Common.{refl}
use Rattle.std.specs.Fmt.{digits}
use Rattle.pp_terms.specs.command.Tally.{first_lines, other_lines}
use Rattle.pp_terms.specs.command.Report.{held_line, not_a_store_line}
use Rattle.pp_terms.specs.command.ReportExample.{ReportExamples}

pub report_examples : ReportExamples
unfolding digits first_lines other_lines held_line not_a_store_line
report_examples = record { two = refl; none = refl; other = refl; counts = refl }
