use Rattle.std.proofs.Common.{ℕ, Bool, sym, ◌∙◌, ap}
use Rattle.pp_terms.specs.format.Descriptor.{chunks_of}
use Rattle.pp_terms.specs.tree.Proves.{filled}
use Rattle.pp_paths.proofs.PeakNodes.{filled_empty}
use Rattle.pp_recorded.specs.Claims.{known_of}
use Rattle.pp_recorded.specs.Provings.{looked_up}
use Rattle.pp_recorded.proofs.proving.known.Goals as goal

pub returns : goal.returns
returns c =
    filled_empty c.chunks.result (known_of c.args.claims.now) c.args.node.layer c.args.node.offset c.covers.result c.new.result c.covers.ensures c.if-covers.false c.new.ensures.same
    ∙ ap (λ (n : ℕ). filled n (known_of c.args.claims.now) c.args.node.layer c.args.node.offset) c.chunks.ensures.chunks
    ∙ ap (λ (b : Bool). looked_up b (chunks_of c.args.claims.now.descriptor.now) (known_of c.args.claims.now) c.args.node.layer c.args.node.offset) (sym c.if-not-is_filled.false)
