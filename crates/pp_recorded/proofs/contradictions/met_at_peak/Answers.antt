use Rattle.std.proofs.Common.{None, cond, Bool, sym, ◌∙◌, ap}
use Rattle.pp_terms.specs.format.Descriptor.{chunks_of}
use Rattle.pp_recorded.specs.Claims.{known_of}
use Rattle.pp_recorded.proofs.Contradicting.{met_peak_from}
use Rattle.pp_recorded.proofs.contradictions.met_at_peak.Goals as goal

pub returns-then-is_peak : goal.returns-then-is_peak
returns-then-is_peak c =
    c.digest.ensures ∙ ap (λ (b : Bool). cond b (known_of c.args.claims.now c.args.node.layer c.args.node.offset) None) (sym c.if-is_peak.true)
    ∙ met_peak_from (chunks_of c.args.claims.now.descriptor.now) c.chunks.result (known_of c.args.claims.now) c.args.node.layer c.args.node.offset c.is_peak.result None c.chunks.ensures.chunks c.is_peak.ensures

pub returns-else-is_peak : goal.returns-else-is_peak
returns-else-is_peak c =
    ap (λ (b : Bool). cond b (known_of c.args.claims.now c.args.node.layer c.args.node.offset) None) (sym c.if-is_peak.false)
    ∙ met_peak_from (chunks_of c.args.claims.now.descriptor.now) c.chunks.result (known_of c.args.claims.now) c.args.node.layer c.args.node.offset c.is_peak.result None c.chunks.ensures.chunks c.is_peak.ensures
