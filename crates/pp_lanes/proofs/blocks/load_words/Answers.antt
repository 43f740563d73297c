use Rattle.std.proofs.Common.{rules, ◌≡◌, ◌+◌, ◌*◌, ap, sym, ◌∙◌, arith}
use Rattle.sha2.specs.Sha256.{word_at}
use Rattle.pp_lanes.specs.Lanes.{block_of}
use Rattle.pp_lanes.proofs.LaneBlocks.{window_more, word_of_block}
use Rattle.pp_lanes.proofs.blocks.load_words.Goals as goal

pub words-preserved : goal.words-preserved
words-preserved c = (
  search rules,
  λ j k lt h.
      let bytes = c.args.bytes.now in
      let o = c.args.at + j * c.args.size in
      let i = c.words.i in
      let word : word_at bytes (c.args.at + 4 * i + j * c.args.size) ≡ word_at (block_of bytes c.args.size c.args.at j) (4 * i) =
      ap (word_at bytes) (omega arith) ∙ sym (word_of_block bytes o (4 * i) (omega arith)) in
      window_more j c.words.w c.load_four.result i (λ k. word_at (block_of bytes c.args.size c.args.at j) (4 * k)) c.words.invariant.0 (omega arith)
      (λ k. c.words.invariant.1 j k lt) (c.load_four.ensures j lt ∙ word) k h,
)
