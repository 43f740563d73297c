use Rattle.pp_terms.proofs.Heights.{height_by_zeros}
use Rattle.pp_tree.proofs.node.height.Goals as goal

pub returns-clause-height : goal.returns-clause-height
returns-clause-height c = (height_by_zeros c.args.chunks c.requires.some c.requires.most).2

pub returns-clause-least : goal.returns-clause-least
returns-clause-least c = (height_by_zeros c.args.chunks c.requires.some c.requires.most).0

pub returns-clause-range : goal.returns-clause-range
returns-clause-range c = (height_by_zeros c.args.chunks c.requires.some c.requires.most).1
