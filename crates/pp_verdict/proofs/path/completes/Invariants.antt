use Rattle.std.proofs.Common.{◌≡◌, ◌≤◌, ◌+◌, List}
use Rattle.pp_terms.specs.format.Descriptor.{chunks_of}
use Rattle.pp_traffic.specs.Story.{Line}
use Rattle.pp_traffic.specs.Hashes.{is_told, completes, completes_from}
use Rattle.pp_tree.specs.Node.{node_of}
use Rattle.pp_recorded.specs.Paths.{brought}
use Rattle.pp_story.specs.Stories.{StandsFor}
use Rattle.pp_verdict.proofs.path.completes.Given as goal

abbrev pub invariant-layers : goal.invariant-layers
invariant-layers l = record {
  low : l.node.layer + l.layers ≤ 21;
  same : (s : List Line) → StandsFor l.story l.descriptor s
      → completes (chunks_of l.descriptor) (brought l.descriptor l.chunk.datagram.now l.chunk.count) (is_told (chunks_of l.descriptor) s) l.number
      ≡ completes_from l.layers (chunks_of l.descriptor) (brought l.descriptor l.chunk.datagram.now l.chunk.count) (is_told (chunks_of l.descriptor) s) (node_of l.node);
}

abbrev pub decreases-layers : goal.decreases-layers
decreases-layers l = l.layers
