use Rattle.std.proofs.Common.{◌∙◌, ap, arith, List}
use Rattle.pp_terms.specs.tree.Range.{Span}
use Rattle.pp_audit.specs.Reports.{left_of, left_behind}
use Rattle.pp_audit.proofs.ReportTexts.{range_read, ended_here}
use Rattle.pp_audit.proofs.reports.after_number.Goals as goal

pub returns-else-is_in-clause-text : goal.returns-else-is_in-clause-text
returns-else-is_in-clause-text c = λ more.
    range_read c.args.walk.now.is_more (record { first = c.in-Some.first; last = c.saturating_sub.result }) more
    (left_of c.args.walk.now.left) (left_of c.read_range.result) c.read_range.ensures
    ∙ ap (λ (spans : List Span). left_behind c.args.walk.now spans)
    (ended_here c.args.walk.now.begun c.args.number c.in-Some.first c.saturating_sub.result c.args.is_in c.in-Some.is c.if-is_in.false (omega arith) more)
