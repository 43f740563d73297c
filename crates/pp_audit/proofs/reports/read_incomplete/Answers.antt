use Rattle.pp_promises.specs.Missing.{incomplete_line}
use Rattle.pp_audit.proofs.reports.read_incomplete.Goals as goal

pub returns : goal.returns
unfolding incomplete_line
returns c = c.read_line.ensures
