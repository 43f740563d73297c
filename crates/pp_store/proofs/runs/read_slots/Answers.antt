use Rattle.std.proofs.Common.{◌≡◌, ℕ, ◌+◌, ◌-◌, ◌*◌, List, ◌++◌, length, drop, ap, ◌∙◌, subst, arith}
use Rattle.std.proofs.lemmas.List.{length-take}
use Rattle.pp_terms.specs.tree.Content.{chunk_length}
use Rattle.pp_terms.specs.disk.Disk.{IsRead}
use Rattle.pp_terms.specs.disk.Store.{chunk_place}
use Rattle.pp_store.specs.Runs.{AreTogether}
use Rattle.pp_store.proofs.RunSteps.{slots_read}
use Rattle.pp_store.proofs.runs.read_slots.Goals as goal

pub returns-clause-read : goal.returns-clause-read
returns-clause-read g c known =
    let d = c.args.descriptor.now in
    let reads : List ℕ = (g.D.Disk.state c.args.disk.now).history.reads in
    let is = c.chunk-chunk.ensures.chunk in
    let begin : (c.args.count - 1) * (c.chunk-chunk.result + 65) ≡ (c.args.count - 1) * (d.chunk + 65) = ap (λ (n : ℕ). (c.args.count - 1) * (n + 65)) is in
    let number : ℕ = (c.args.count - 1) * (c.chunk-chunk.result + 65) + c.chunk_len-size.result in
    let long : length c.read_at.new.into ≡ (c.args.count - 1) * (d.chunk + 65) + chunk_length d.size d.chunk (c.args.first + c.args.count - 1) =
    omega (arith, begin, c.read_at.auto.into, c.chunk_len-size.ensures.len, c.chunk_len-size.ensures.range, c.requires.room, length-take number c.args.out.now) in
    slots_read d c.args.first c.args.count reads c.read_at.new.into (drop number c.args.out.now) c.close_gaps.new.out c.requires.some long
    (subst (λ (place : ℕ). IsRead reads place c.read_at.new.into) (c.slot_place.ensures ∙ ap (λ (n : ℕ). chunk_place n c.args.first) c.chunk.ensures.chunk) (c.in_ok-read_at.ensures.filled known))
    (subst (λ (n : ℕ). AreTogether n c.args.count (c.read_at.new.into ++ drop number c.args.out.now) c.close_gaps.new.out) is c.close_gaps.ensures)
