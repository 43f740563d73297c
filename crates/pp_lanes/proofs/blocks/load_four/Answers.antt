use Rattle.std.proofs.Common.{◌≡◌, ◌+◌, ◌*◌, [], ◌∷◌, slice_index, ap, ◌∙◌, arith}
use Rattle.sha2.specs.Sha256.{word_at}
use Rattle.pp_lanes.proofs.LaneBlocks.{below_four}
use Rattle.pp_lanes.proofs.blocks.load_four.Goals as goal

pub returns : goal.returns
returns c =
    let word = word_at c.args.bytes.now in
    below_four
    (λ j. slice_index (c.load_be.result ∷ c.load_be-2.result ∷ c.load_be-3.result ∷ c.load_be-4.result ∷ []) j ≡ word_at c.args.bytes.now (c.args.at + j * c.args.size))
    (c.load_be.ensures ∙ ap word (omega arith)) (c.load_be-2.ensures ∙ ap word (omega arith))
    (c.load_be-3.ensures ∙ ap word (omega arith)) (c.load_be-4.ensures ∙ ap word (omega arith))
