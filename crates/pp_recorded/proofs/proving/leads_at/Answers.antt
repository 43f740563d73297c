use Rattle.std.proofs.Common.{◌∙◌, ap}
use Rattle.pp_terms.specs.format.Descriptor.{chunks_of}
use Rattle.pp_terms.specs.tree.Proves.{climbed}
use Rattle.pp_tree.specs.declared.node.Node.{Node}
use Rattle.pp_recorded.specs.Claims.{known_of}
use Rattle.pp_recorded.proofs.Provings.{leads_from, leads_not}
use Rattle.pp_recorded.proofs.proving.leads_at.Goals as goal

pub returns-then-not-is_peak : goal.returns-then-not-is_peak
returns-then-not-is_peak c =
    leads_not (chunks_of c.args.claims.now.descriptor.now) c.chunks.result (known_of c.args.claims.now) c.args.chunk c.args.top c.args.digest c.is_peak.result c.chunks.ensures.chunks
    c.is_peak.ensures c.if-not-is_peak.true

pub returns : goal.returns
returns c =
    leads_from (chunks_of c.args.claims.now.descriptor.now) c.chunks.result (known_of c.args.claims.now) c.args.chunk c.args.top c.args.digest c.is_peak.result c.is_same.result
    c.climb-reached.result c.digest.result c.chunks.ensures.chunks c.is_peak.ensures c.if-not-is_peak.false
    (c.climb-reached.ensures ∙ ap (λ (at : Node). climbed (known_of c.args.claims.now) c.args.top at.layer at.offset c.args.digest) c.leaf.ensures.is) c.digest.ensures c.is_same.ensures
