use Rattle.pp_tree.proofs.Sizes.{content_size_range}
use Rattle.pp_tree.proofs.descriptor.Descriptor.size.Goals as goal

pub returns-clause-range : goal.returns-clause-range
returns-clause-range c = content_size_range _ _ c.self.invariant.chunk_size c.self.invariant.content_size
