use Rattle.pp_tree.proofs.Sizes.{chunk_size_range}
use Rattle.pp_tree.proofs.descriptor.Descriptor.chunk.Goals as goal

pub returns-clause-range : goal.returns-clause-range
returns-clause-range c = chunk_size_range _ c.self.invariant.chunk_size
