use Rattle.std.proofs.Common.{◌≡◌, ℕ, ◌*◌, ◌<◌, length, slice_index}
use Rattle.sha2.specs.Sha256.{word_at}
use Rattle.pp_lanes.specs.Lanes.{block_of, window}
use Rattle.pp_lanes.proofs.blocks.load_words.Given as goal

abbrev pub invariant-words : goal.invariant-words
invariant-words l = (length l.w ≡ 16)
    × ((j k : ℕ) → j < 4 → k < l.i → slice_index (window j l.w) k ≡ word_at (block_of l.bytes l.size l.at j) (4 * k))
