use Rattle.std.proofs.Common.{◌∙◌}
use Rattle.pp_tree.proofs.descriptor.Descriptor.read.Goals as goal

pub returns-clause-each : goal.returns-clause-each
returns-clause-each c = λ d ok all e. c.read_bytes.ensures.each d ok all (c.as_bytes.ensures.value ∙ e)
