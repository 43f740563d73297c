use Rattle.std.proofs.Common.{arith}
use Rattle.pp_recorded.specs.Entries.{past}
use Rattle.pp_audit.proofs.TallyCounts.{counted_capped}
use Rattle.pp_audit.proofs.tallies.count_of.Goals as goal

pub returns : goal.returns
returns c = counted_capped c.args.kind (past c.args.entries.now) c.number_of.result c.number_of.ensures.count (omega arith)
