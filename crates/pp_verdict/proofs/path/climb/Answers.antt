use Rattle.pp_terms.specs.format.Descriptor.{chunks_of}
use Rattle.pp_traffic.specs.Hashes.{is_told}
use Rattle.pp_tree.specs.Node.{node_of}
use Rattle.pp_recorded.specs.Paths.{brought}
use Rattle.pp_recorded.proofs.Climbs.{climb_peak, climb_sibling, climb_none}
use Rattle.pp_verdict.proofs.path.climb.Goals as goal

pub returns-then-is_peak : goal.returns-then-is_peak
returns-then-is_peak c = λ s stands.
    climb_peak (chunks_of c.args.descriptor.now) c.chunks.result (brought c.args.descriptor.now c.args.chunk.datagram.now c.args.chunk.count)
    (is_told (chunks_of c.args.descriptor.now) s) (node_of c.args.node) c.is_told.result c.is_peak.result c.has_peaks.result
    c.chunks.ensures.chunks (c.is_told.ensures c.args.descriptor.now s stands) c.if-is_told.false c.is_peak.ensures c.if-is_peak.true (c.has_peaks.ensures s stands)

pub returns-then-is_known : goal.returns-then-is_known
returns-then-is_known c = λ s stands.
    climb_sibling (chunks_of c.args.descriptor.now) c.chunks.result (brought c.args.descriptor.now c.args.chunk.datagram.now c.args.chunk.count)
    (is_told (chunks_of c.args.descriptor.now) s) (node_of c.args.node) (node_of c.sibling.result) c.is_told.result c.is_peak.result c.is_known.result
    c.chunks.ensures.chunks (c.is_told.ensures c.args.descriptor.now s stands) c.if-is_told.false c.is_peak.ensures c.if-is_peak.false c.sibling.ensures.sibling (c.is_known.ensures s stands) c.if-is_known.true

pub returns : goal.returns
returns c = λ s stands.
    climb_none (chunks_of c.args.descriptor.now) c.chunks.result (brought c.args.descriptor.now c.args.chunk.datagram.now c.args.chunk.count)
    (is_told (chunks_of c.args.descriptor.now) s) (node_of c.args.node) (node_of c.sibling.result) c.is_told.result c.is_peak.result c.is_known.result
    c.chunks.ensures.chunks (c.is_told.ensures c.args.descriptor.now s stands) c.if-is_told.false c.is_peak.ensures c.if-is_peak.false c.sibling.ensures.sibling (c.is_known.ensures s stands) c.if-is_known.false
