use Rattle.pp_terms.specs.format.Descriptor.{chunks_of}
use Rattle.pp_recorded.specs.Claims.{known_of}
use Rattle.pp_recorded.proofs.Contradicting.{met_root_from}
use Rattle.pp_recorded.proofs.contradictions.met_to_root.Goals as goal

pub returns-then-is_above_last : goal.returns-then-is_above_last
returns-then-is_above_last c =
    met_root_from (chunks_of c.args.claims.now.descriptor.now) c.chunks-chunks.result (known_of c.args.claims.now) c.args.node.layer c.args.node.offset c.saturating_sub.result
    c.last_peak.result.layer c.is_above_last.result c.climb_last.result c.chunks-chunks.ensures.chunks c.is_above_last.ensures c.if-is_above_last.true c.climb_last.ensures
    c.saturating_sub.ensures c.last_peak.ensures.layer
