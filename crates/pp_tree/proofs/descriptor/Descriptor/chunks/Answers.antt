use Rattle.std.proofs.Common.{◌<◌, arith}
use Rattle.pp_tree.proofs.Sizes.{chunk_size_range, chunk_count_by_ceil}
use Rattle.pp_tree.proofs.descriptor.Descriptor.chunks.Goals as goal

pub returns-clause-chunks : goal.returns-clause-chunks
returns-clause-chunks c =
    let some : 0 < c.self.inside.chunk = omega (arith, (chunk_size_range _ c.self.invariant.chunk_size).0) in
    rw (← c.self.view_is) (rw c.div_ceil.ensures (rw c.from.ensures (chunk_count_by_ceil _ _ some)))
