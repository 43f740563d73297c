use Rattle.std.proofs.Common.{◌≡◌, ◌+◌, ◌-◌, length, drop, ◌∙◌, arith}
use Rattle.std.proofs.lemmas.List.{length-take, length-drop}
use Rattle.std.proofs.lemmas.Slice.{take-put_mid}
use Rattle.pp_draft.proofs.Hashes.{chunk_written, long_mid}
use Rattle.pp_draft.proofs.chunk.fetch.Goals as goal

pub returns-in-Ok-clause-fetches : goal.returns-in-Ok-clause-fetches
returns-in-Ok-clause-fetches g c =
    let one = c.put_front-start.new.out in
    let start = c.put_front-start.result in
    let size = c.chunk_len.result in
    let into = c.read.new.into in
    let same : length one ≡ 16384 = c.put_front-start.auto.out ∙ c.requires.room in
    let whole : length into ≡ size = omega (arith, c.read.auto.into, length-take (start + size - start) (drop start one), length-drop start one, same, c.put_front-start.ensures.ends, c.chunk_len.ensures.range.1, c.chunk-chunk.ensures.range.1) in
    let long = long_mid start (start + size - start) one into (omega (arith, same, c.put_front-start.ensures.ends, c.chunk_len.ensures.range.1, c.chunk-chunk.ensures.range.1)) (omega (arith, whole)) in
    record {
      bytes = into;
      given = c.in-Ok.ensures;
      whole = whole ∙ c.chunk_len.ensures.len;
      written = chunk_written c.args.descriptor.now c.args.delivery.now into one _ start (start + size)
          (omega (arith, c.chunk-chunk.ensures.chunk, c.chunk-chunk.ensures.range.0)) (omega arith) (omega (arith, whole, c.chunk_len.ensures.range.0)) (omega (arith, whole, c.chunk_len.ensures.range.1))
          c.put_front-start.ensures.front (take-put_mid start (start + size - start) one into (start + size) (omega (arith, whole)) (omega (arith, c.put_front-start.ensures.ends, same)))
          (λ i. omega (arith, c.type_inv.out i)) (omega (arith, long, same, c.put_front-start.ensures.ends, c.chunk_len.ensures.range.1, c.chunk-chunk.ensures.range.1)) (long ∙ same);
      within = omega (arith, long, same, c.put_front-start.ensures.ends, c.chunk_len.ensures.range.1, c.chunk-chunk.ensures.range.1);
    }
