use Rattle.pp_tree.proofs.Sizes.{chunk_size_tested}
use Rattle.pp_targets.proofs.target.is_chunk_size.Goals as goal

pub returns : goal.returns
returns c = chunk_size_tested _ _ c.contains.ensures.value
