use Rattle.pp_named.proofs.Shapes.{first_offset}
use Rattle.pp_named.proofs.shape.first_past.Goals as goal

pub returns : goal.returns
returns c = first_offset c.args.chunks c.args.layer c.div_ceil.result c.requires c.div_ceil.ensures
