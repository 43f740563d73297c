use Rattle.std.proofs.Common.{◌-◌}
use Rattle.pp_paths.proofs.climbing.+adopt_from.Given as goal

abbrev pub decreases-adopt_from : goal.decreases-adopt_from
decreases-adopt_from g l = l.top - l.node.layer
