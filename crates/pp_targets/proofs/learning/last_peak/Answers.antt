use Rattle.std.proofs.Common.{ap}
use Rattle.pp_terms.specs.tree.Proves.{last_layer}
use Rattle.pp_paths.specs.Climb.{node_at}
use Rattle.pp_paths.proofs.PeakNodes.{last_some, last_offset}
use Rattle.pp_targets.proofs.learning.last_peak.Goals as goal

pub overflow_sub-result : goal.overflow_sub-result
unfolding last_layer
overflow_sub-result c = last_some c.args.chunks c.requires c.ranges.chunks.fits

pub returns : goal.returns
unfolding last_layer
returns c = ap (λ j. node_at (last_layer c.args.chunks) j) (last_offset c.args.chunks)
