use Rattle.std.proofs.Common.{◌≡◌, ◌<◌, ℕ, Bool, false, get_or, sym, ◌∙◌, ap, arith}
use Rattle.std.specs.Prelude.{◌||◌}
use Rattle.pp_terms.specs.tree.Content.{chunk_length}
use Rattle.pp_terms.specs.format.Descriptor.{Descriptor, chunks_of}
use Rattle.pp_channel_tests.proofs.desk.read_from.Goals as goal

pub read-requires : goal.read-requires
read-requires c =
    let same = c.in-Ok-open.ensures.begun.0 in
    let count = ap (λ (d : Descriptor). chunks_of d) same in
    record {
      within = omega (arith, count, c.chunks.ensures.chunks, c.chunks.ensures.range);
      whole = (let three : c.chunk_len.result ≡ 3 = omega (arith, c.if-chunk_len-ne3.false) in sym three) ∙ c.chunk_len.ensures.len ∙ ap (λ (d : Descriptor). chunk_length d.size d.chunk 0) (sym same);
      leaf = λ is. c.in-Ok-open.ensures.knows.leaf 0 (ap (λ (b : Bool). b || get_or c.in-Ok-open.store.pending 0 false) is);
    }
