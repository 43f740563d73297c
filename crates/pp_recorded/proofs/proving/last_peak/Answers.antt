use Rattle.std.proofs.Common.{refl}
use Rattle.pp_terms.specs.tree.Proves.{last_layer}
use Rattle.pp_paths.proofs.PeakNodes.{last_is, last_some, last_offset}
use Rattle.pp_recorded.proofs.proving.last_peak.Goals as goal

pub overflow_sub-offset : goal.overflow_sub-offset
unfolding last_layer
overflow_sub-offset c = last_some c.args.chunks c.requires c.ranges.chunks.fits

pub returns-clause-offset : goal.returns-clause-offset
unfolding last_layer
returns-clause-offset c = last_offset c.args.chunks

pub returns-clause-layer : goal.returns-clause-layer
unfolding last_layer
returns-clause-layer c = refl

pub returns-clause-low : goal.returns-clause-low
unfolding last_layer
returns-clause-low c = let last = last_is c.args.chunks c.requires c.ranges.chunks.fits in last.low
