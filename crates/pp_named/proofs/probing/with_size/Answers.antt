use Rattle.std.proofs.Common.{refl}
use Rattle.pp_targets.specs.Names.{name_of}
use Rattle.pp_named.proofs.Fronts.{last_64, last_other, no_content_size}
use Rattle.pp_named.proofs.probing.with_size.Goals as goal

pub returns-then-chunk_len-eq-TWO_DIGESTS : goal.returns-then-chunk_len-eq-TWO_DIGESTS
returns-then-chunk_len-eq-TWO_DIGESTS c = (
  refl,
  last_64 (name_of c.args.name.now) c.args.size c.in-Ok.descriptor c.chunks.result c.chunk_len.result c.in-Ok.ensures.value
      c.chunks.ensures.chunks c.chunk_len.ensures.len c.if-chunk_len-eq-TWO_DIGESTS.true,
)

pub returns-else-chunk_len-eq-TWO_DIGESTS : goal.returns-else-chunk_len-eq-TWO_DIGESTS
returns-else-chunk_len-eq-TWO_DIGESTS c = (
  c.in-Ok.ensures.value,
  c.in-Ok.ensures.valid,
  last_other (name_of c.args.name.now) c.args.size c.in-Ok.descriptor c.chunks.result c.chunk_len.result c.in-Ok.ensures.value
      c.chunks.ensures.chunks c.chunk_len.ensures.len c.if-chunk_len-eq-TWO_DIGESTS.false,
)

pub returns-in-Err : goal.returns-in-Err
returns-in-Err c = (
  refl,
  no_content_size (name_of c.args.name.now) c.args.size
      (λ content. let ok = c.in-Err.ensures.ok.1 (c.requires, content) in cc),
)
