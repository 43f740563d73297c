use Rattle.std.proofs.Common.{◌≡◌, ℕ, List, nat_eq, length, sym, ap, ◌∙◌, arith}
use Rattle.std.specs.Cmp.Lexicographic.{pointwise}
use Rattle.std.proofs.lemmas.List.{length-take}
use Rattle.sha2.specs.Sha256.{sha256}
use Rattle.pp_terms.specs.disk.Store.{chunk_place}
use Rattle.pp_tree.specs.Book.{entry}
use Rattle.pp_store.proofs.Opening.{right_chunk, damaged_chunk, there_sound}
use Rattle.pp_store.proofs.reading.read_chunk.Goals as goal

pub returns-then-eq-clause-read : goal.returns-then-eq-clause-read
returns-then-eq-clause-read g c =
    let into = c.read_at.new.into in
    let size = c.chunk_len-size.result in
    let long : length into ≡ size = c.read_at.auto.into ∙ length-take size c.args.out.now ∙ omega (arith, c.chunk_len-size.ensures.len, c.requires.room) in
    let digests : pointwise nat_eq c.bytes.result.now c.bytes-in-Ok.result.now ≡ pointwise nat_eq c.unwrap-kept.result (sha256 into) =
    ap (λ (x : List ℕ). pointwise nat_eq x c.bytes-in-Ok.result.now) c.bytes.ensures.same ∙ ap (λ (x : List ℕ). pointwise nat_eq c.unwrap-kept.result x) (c.bytes-in-Ok.ensures.same ∙ c.leaf-found.ensures) in
    right_chunk c.args.descriptor.now c.args.i (entry c.args.book.now) (g.D.Disk.state c.args.disk.now) into _ c.unwrap-kept.result c.slot_place.result size long
    c.chunk_len-size.ensures.len (c.slot_place.ensures ∙ ap (λ (n : ℕ). chunk_place n c.args.i) c.chunk.ensures.chunk) (sym c.get.ensures.get ∙ c.unwrap-kept.ensures)
    (c.if-eq.ensures ∙ digests) (λ known. c.in-Ok.ensures.filled known)

pub returns-else-eq-clause-read : goal.returns-else-eq-clause-read
returns-else-eq-clause-read g c =
    let into = c.read_at.new.into in
    let size = c.chunk_len-size.result in
    let long : length into ≡ size = c.read_at.auto.into ∙ length-take size c.args.out.now ∙ omega (arith, c.chunk_len-size.ensures.len, c.requires.room) in
    let digests : pointwise nat_eq c.bytes.result.now c.bytes-in-Ok.result.now ≡ pointwise nat_eq c.unwrap-kept.result (sha256 into) =
    ap (λ (x : List ℕ). pointwise nat_eq x c.bytes-in-Ok.result.now) c.bytes.ensures.same ∙ ap (λ (x : List ℕ). pointwise nat_eq c.unwrap-kept.result x) (c.bytes-in-Ok.ensures.same ∙ c.leaf-found.ensures) in
    damaged_chunk c.args.descriptor.now c.args.i (entry c.args.book.now) (g.D.Disk.state c.args.disk.now) into _ c.unwrap-kept.result c.leaf-found.result c.slot_place.result size long
    c.chunk_len-size.ensures.len (c.slot_place.ensures ∙ ap (λ (n : ℕ). chunk_place n c.args.i) c.chunk.ensures.chunk) (sym c.get.ensures.get ∙ c.unwrap-kept.ensures) c.leaf-found.ensures
    (c.if-eq.ensures ∙ digests) (λ known. c.in-Ok.ensures.filled known)

pub returns-else-eq-clause-sound : goal.returns-else-eq-clause-sound
returns-else-eq-clause-sound g c known there found kept is =
    let into = c.read_at.new.into in
    let size = c.chunk_len-size.result in
    let long : length into ≡ size = c.read_at.auto.into ∙ length-take size c.args.out.now ∙ omega (arith, c.chunk_len-size.ensures.len, c.requires.room) in
    let digests : pointwise nat_eq c.bytes.result.now c.bytes-in-Ok.result.now ≡ pointwise nat_eq c.unwrap-kept.result (sha256 into) =
    ap (λ (x : List ℕ). pointwise nat_eq x c.bytes-in-Ok.result.now) c.bytes.ensures.same ∙ ap (λ (x : List ℕ). pointwise nat_eq c.unwrap-kept.result x) (c.bytes-in-Ok.ensures.same ∙ c.leaf-found.ensures) in
    there_sound c.args.descriptor.now c.args.i (entry c.args.book.now) (g.D.Disk.state c.args.disk.now).history.reads into c.unwrap-kept.result c.slot_place.result size (omega (arith, c.chunk_len-size.ensures.range)) long
    c.chunk_len-size.ensures.len (c.slot_place.ensures ∙ ap (λ (n : ℕ). chunk_place n c.args.i) c.chunk.ensures.chunk) (sym c.get.ensures.get ∙ c.unwrap-kept.ensures)
    (c.in-Ok.ensures.filled known) there (c.if-eq.ensures ∙ digests)
