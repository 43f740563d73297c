use Rattle.std.proofs.Common.{◌+◌, ◌-◌}
use Rattle.pp_terms.specs.format.Descriptor.{height_of}
use Rattle.pp_recorded.proofs.hashes.+without_uncles.Given as goal

abbrev pub decreases-without_uncles : goal.decreases-without_uncles
decreases-without_uncles l = height_of l.descriptor.now + 1 - l.node.layer
