use Rattle.std.proofs.Common.{ℕ, ◌%◌, ap, ◌∙◌}
use Rattle.pp_store.proofs.Nexts.{blocks_whole}
use Rattle.pp_store.proofs.runs.is_right_four.Goals as goal

pub digest_four-four-requires-clause-whole : goal.digest_four-four-requires-clause-whole
digest_four-four-requires-clause-whole c = ap (λ (n : ℕ). n % 64) c.chunk-chunk.ensures.chunk ∙ blocks_whole c.args.descriptor.now.chunk c.chunk-chunk.ensures.valid.chunk_size
