use Rattle.std.proofs.Common.{◌≡◌, ◌+◌, ◌≤◌, ℕ, List, length, nat_eq, sym, ◌∙◌, ap, arith}
use Rattle.std.specs.Cmp.Lexicographic.{pointwise}
use Rattle.std.proofs.lemmas.List.{length-take}
use Rattle.sha2.specs.Sha256.{sha256}
use Rattle.pp_terms.specs.disk.Image.{slice}
use Rattle.pp_terms.specs.disk.Store.{chunk_place}
use Rattle.pp_tree.specs.Book.{entry}
use Rattle.pp_scan.proofs.Reading.{read_slice}
use Rattle.pp_scan.proofs.Holds.{there_read}
use Rattle.pp_scan.proofs.verifying.is_held.Goals as goal

pub returns-in-Ok-clause-held : goal.returns-in-Ok-clause-held
returns-in-Ok-clause-held g c known =
    let reads = (g.D.Disk.state c.args.disk.now).history.reads in
    let bytes = c.read_at.new.into in
    let size = c.chunk_len-size.result in
    let long : length bytes ≡ size =
    c.read_at.auto.into ∙ length-take size c.args.buffer.now ∙ omega (arith, c.told-buffer, c.chunk_len-size.ensures.range, c.chunk.ensures.chunk, c.chunk.ensures.range) in
    let inside : c.slot_place-place.result + length bytes ≤ length reads = omega (arith, c.requires.counted known) in
    let is : bytes ≡ slice reads c.slot_place-place.result size =
    read_slice reads c.slot_place-place.result bytes (c.in-Ok.ensures.filled known) inside ∙ ap (λ (n : ℕ). slice reads c.slot_place-place.result n) long in
    let test : pointwise nat_eq c.bytes.result.now c.bytes-in-Ok.result.now ≡ pointwise nat_eq c.in-Some.digest (sha256 bytes) =
    ap (λ (x : List ℕ). pointwise nat_eq x c.bytes-in-Ok.result.now) c.bytes.ensures.same ∙ ap (λ (x : List ℕ). pointwise nat_eq c.in-Some.digest x) (c.bytes-in-Ok.ensures.same ∙ c.leaf.ensures) in
    there_read c.args.descriptor.now reads (entry c.args.book.now) c.args.i c.slot_place-place.result size bytes c.in-Some.digest c.eq.result
    (c.slot_place-place.ensures ∙ ap (λ (n : ℕ). chunk_place n c.args.i) c.chunk.ensures.chunk) c.chunk_len-size.ensures.len is long (sym c.in-Some.ensures.get) (c.eq.ensures ∙ test)
