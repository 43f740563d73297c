use Rattle.std.proofs.Common.{◌≡◌, ◌≤◌, ◌+◌}
use Rattle.pp_terms.specs.format.Descriptor.{chunks_of}
use Rattle.pp_traffic.specs.Hashes.{completes, completes_from}
use Rattle.pp_tree.specs.Node.{node_of}
use Rattle.pp_recorded.specs.Entries.{past, life_of}
use Rattle.pp_recorded.specs.Paths.{brought, told}
use Rattle.pp_recorded.proofs.path.completes.Given as goal

abbrev pub invariant-layers : goal.invariant-layers
invariant-layers l = record {
  low : l.node.layer + l.layers ≤ 21;
  same : completes (chunks_of l.descriptor) (brought l.descriptor l.bytes l.count) (told l.descriptor (life_of l.life) (past l.entries)) l.chunk
      ≡ completes_from l.layers (chunks_of l.descriptor) (brought l.descriptor l.bytes l.count) (told l.descriptor (life_of l.life) (past l.entries)) (node_of l.node);
}

abbrev pub decreases-layers : goal.decreases-layers
decreases-layers l = l.layers
