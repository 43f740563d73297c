use Rattle.std.proofs.Common.{◌≡◌, ℕ, ◌+◌, ◌-◌, ◌*◌, ◌≤◌, List, length, drop, ap, ◌∙◌, subst, arith}
use Rattle.std.proofs.lemmas.List.{length-take, length-drop}
use Rattle.pp_terms.specs.disk.Disk.{History}
use Rattle.pp_scan.proofs.Reading.{keeps_more, known_after}
use Rattle.pp_store.specs.Runs.{AreRead}
use Rattle.pp_store.proofs.RunSteps.{read_on, chunks_within}
use Rattle.pp_store.proofs.runs.read_chunks.Goals as goal

pub fitting_slots-group-requires-clause-fits : goal.fitting_slots-group-requires-clause-fits
fitting_slots-group-requires-clause-fits g c =
    let start = c.loop-read.read * c.chunk-chunk.result in
    let is : start ≡ c.loop-read.read * c.args.descriptor.now.chunk = ap (λ (n : ℕ). c.loop-read.read * n) c.chunk-chunk.ensures.chunk in
    let room = chunks_within c.loop-read.read c.args.count c.args.descriptor.now.chunk c.loop-read-test.true in
    omega (arith, is, room, c.requires.room, c.loop-read.auto.out, c.chunk-chunk.ensures.chunk, length-take (length c.loop-read.out - start) (drop start c.loop-read.out), length-drop start c.loop-read.out)

pub loop-read-preserved : goal.loop-read-preserved
loop-read-preserved g c =
    let d = c.args.descriptor.now in
    let before = c.loop-read.invariant in
    let start = c.loop-read.read * c.chunk-chunk.result in
    let is : start ≡ c.loop-read.read * d.chunk = ap (λ (n : ℕ). c.loop-read.read * n) c.chunk-chunk.ensures.chunk in
    let room = chunks_within c.loop-read.read c.args.count d.chunk c.loop-read-test.true in
    let inside : start ≤ length c.loop-read.out = omega (arith, is, room, c.requires.room, c.loop-read.auto.out) in
    record {
      most = omega (arith, c.fitting_slots-group.ensures.most, before.most);
      read = λ known. read_on d c.args.first (g.D.Disk.state c.args.disk.now).history.reads c.loop-read.out c.read_slots.new.out c.loop-read.read start c.fitting_slots-group.result is inside (before.read known)
          (subst (λ (r : List ℕ). AreRead d (c.args.first + c.loop-read.read) r c.read_slots.new.out c.fitting_slots-group.result) (ap (λ (h : History). h.reads) before.keeps.same)
          (c.in-Ok.ensures.read (known_after _ _ before.keeps known)));
      keeps = keeps_more _ _ _ before.keeps c.read_slots.ensures.looks;
      hard = c.read_slots.ensures.hard ∙ before.hard;
    }

pub read_each-requires-clause-room : goal.read_each-requires-clause-room
read_each-requires-clause-room g c =
    let d = c.args.descriptor.now in
    let start = c.loop-read.read * c.chunk-chunk.result in
    let is : start ≡ c.loop-read.read * d.chunk = ap (λ (n : ℕ). c.loop-read.read * n) c.chunk-chunk.ensures.chunk in
    let whole : c.args.count * d.chunk ≡ (c.args.count - c.loop-read.read + c.loop-read.read) * d.chunk = ap (λ (n : ℕ). n * d.chunk) (omega (arith, c.loop-read.invariant.most)) in
    omega (arith, is, whole, c.requires.room, c.loop-read.auto.out, c.read_slots.auto.out, length-take (length c.loop-read.out - start) (drop start c.loop-read.out), length-drop start c.loop-read.out)

pub returns-in-Err-clause-read : goal.returns-in-Err-clause-read
returns-in-Err-clause-read g c known =
    let d = c.args.descriptor.now in
    let before = c.loop-read.invariant in
    let start = c.loop-read.read * c.chunk-chunk.result in
    let is : start ≡ c.loop-read.read * d.chunk = ap (λ (n : ℕ). c.loop-read.read * n) c.chunk-chunk.ensures.chunk in
    let room = chunks_within c.loop-read.read c.args.count d.chunk c.loop-read-test.true in
    let inside : start ≤ length c.loop-read.out = omega (arith, is, room, c.requires.room, c.loop-read.auto.out) in
    let keeps = keeps_more _ _ _ before.keeps c.read_slots.ensures.looks in
    read_on d c.args.first (g.D.Disk.state c.args.disk.now).history.reads c.loop-read.out c.read_each.new.out c.loop-read.read start c.read_each.result is inside (before.read known)
    (subst (λ (r : List ℕ). AreRead d (c.args.first + c.loop-read.read) r c.read_each.new.out c.read_each.result) (ap (λ (h : History). h.reads) keeps.same)
    (c.read_each.ensures.read (known_after _ _ keeps known)))
