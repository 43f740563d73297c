use Rattle.std.proofs.Common.{◌≡◌, ℕ, ◌+◌, ◌-◌, ◌*◌, ◌≤◌, List, length, take, drop, sym, ap, ◌∙◌, subst, arith}
use Rattle.std.proofs.lemmas.List.{length-take, length-drop, take-append-le}
use Rattle.pp_terms.specs.tree.Content.{chunk_length}
use Rattle.pp_terms.specs.disk.Disk.{History, IsRead}
use Rattle.pp_terms.specs.disk.Store.{chunk_place}
use Rattle.pp_scan.proofs.Reading.{keeps_more, known_after}
use Rattle.pp_store.proofs.RunSteps.{read_kept, read_more, chunks_within}
use Rattle.pp_store.proofs.runs.read_each.Goals as goal

pub returns-in-Err-clause-read : goal.returns-in-Err-clause-read
returns-in-Err-clause-read g c known =
    let is : c.loop-k.k * c.chunk-chunk.result ≡ c.loop-k.k * c.args.descriptor.now.chunk = ap (λ (n : ℕ). c.loop-k.k * n) c.chunk-chunk.ensures.chunk in
    let room = chunks_within c.loop-k.k c.args.count c.args.descriptor.now.chunk c.loop-k-test.true in
    let inside : c.loop-k.k * c.chunk-chunk.result ≤ length c.loop-k.out = omega (arith, is, room, c.requires.room, c.loop-k.auto.out) in
    read_kept c.args.descriptor.now c.args.first (g.D.Disk.state c.args.disk.now).history.reads c.loop-k.out _ c.loop-k.k (c.loop-k.k * c.chunk-chunk.result) is inside (c.loop-k.invariant.read known)

pub loop-k-preserved : goal.loop-k-preserved
loop-k-preserved g c =
    let d = c.args.descriptor.now in
    let before = c.loop-k.invariant in
    let start = c.loop-k.k * c.chunk-chunk.result in
    let is : start ≡ c.loop-k.k * d.chunk = ap (λ (n : ℕ). c.loop-k.k * n) c.chunk-chunk.ensures.chunk in
    let room = chunks_within c.loop-k.k c.args.count d.chunk c.loop-k-test.true in
    let inside : start ≤ length c.loop-k.out = omega (arith, is, room, c.requires.room, c.loop-k.auto.out) in
    let size = chunk_length d.size d.chunk (c.args.first + c.loop-k.k) in
    let long : size ≤ length c.read_bytes.new.out =
    omega (arith, is, room, c.requires.room, c.loop-k.auto.out, c.read_bytes.auto.out, length-take (length c.loop-k.out - start) (drop start c.loop-k.out), length-drop start c.loop-k.out) in
    record {
      read = λ known. read_more d c.args.first (g.D.Disk.state c.args.disk.now).history.reads c.loop-k.out _ c.loop-k.k start is inside (before.read known)
          (subst (IsRead (g.D.Disk.state c.args.disk.now).history.reads (chunk_place d.chunk (c.args.first + c.loop-k.k))) (sym (take-append-le size c.read_bytes.new.out _ long))
          (subst (λ (r : List ℕ). IsRead r (chunk_place d.chunk (c.args.first + c.loop-k.k)) (take size c.read_bytes.new.out)) (ap (λ (h : History). h.reads) before.keeps.same)
          (c.in-Ok.ensures.read (known_after _ _ before.keeps known))));
      keeps = keeps_more _ _ _ before.keeps c.read_bytes.ensures.looks;
      hard = c.read_bytes.ensures.hard ∙ before.hard;
    }
