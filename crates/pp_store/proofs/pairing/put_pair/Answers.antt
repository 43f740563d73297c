use Rattle.std.proofs.Common.{◌+◌, arith, sym, ◌∙◌, ap, List, Bool, false, true, get_or, get_or-set_same}
use Rattle.std.proofs.Math.ListN.{set}
use Rattle.pp_terms.specs.disk.Store.{chunk_place, pair_slot}
use Rattle.pp_tree.specs.Book.{entry}
use Rattle.pp_store.proofs.Marking.{pair_bounds}
use Rattle.pp_store.proofs.PairWrites.{put_done, put_refused, pair_does, pair_fails, same_joined}
use Rattle.pp_store.proofs.Writtens.{wrote_stored, wrote_pair}
use Rattle.pp_store.proofs.pairing.put_pair.Goals as goal

pub pair_slot-slot-requires-clause-low : goal.pair_slot-slot-requires-clause-low
pair_slot-slot-requires-clause-low g c =
    (pair_bounds c.args.descriptor.now c.args.layer c.args.offset c.chunk-chunk.ensures.valid c.requires.inner c.requires.covers).0

pub has-requires : goal.has-requires
has-requires g c =
    let bounds = pair_bounds c.args.descriptor.now c.args.layer c.args.offset c.chunk-chunk.ensures.valid c.requires.inner c.requires.covers in
    omega (arith, bounds.2, c.pair_slot-slot.ensures, c.requires.size)

pub write_pair-requires-clause-few : goal.write_pair-requires-clause-few
write_pair-requires-clause-few g c =
    let bounds = pair_bounds c.args.descriptor.now c.args.layer c.args.offset c.chunk-chunk.ensures.valid c.requires.inner c.requires.covers in
    omega (arith, bounds.3, c.pair_slot-slot.ensures)

pub set-requires : goal.set-requires
set-requires g c =
    let bounds = pair_bounds c.args.descriptor.now c.args.layer c.args.offset c.chunk-chunk.ensures.valid c.requires.inner c.requires.covers in
    omega (arith, bounds.2, c.pair_slot-slot.ensures, c.requires.size)

pub returns-in-Ok-clause-does : goal.returns-in-Ok-clause-does
returns-in-Ok-clause-does g c =
    pair_does (g.D.Disk.state c.args.disk.now) (g.D.Disk.state c.write_pair.new.disk) _ _ c.in-Ok.field-0 (omega arith) c.in-Ok.ensures.written

pub returns-in-Ok-clause-stored : goal.returns-in-Ok-clause-stored
returns-in-Ok-clause-stored g c =
    let bounds = pair_bounds c.args.descriptor.now c.args.layer c.args.offset c.chunk-chunk.ensures.valid c.requires.inner c.requires.covers in
    ap (λ (ps : List Bool). get_or ps (pair_slot c.args.layer c.args.offset) false) c.set.ensures
    ∙ ap (λ s. get_or (set c.args.pairs.now s true) (pair_slot c.args.layer c.args.offset) false) c.pair_slot-slot.ensures
    ∙ get_or-set_same c.args.pairs.now (pair_slot c.args.layer c.args.offset) true false (omega (arith, bounds.2, c.requires.size))

pub returns-in-Ok-clause-puts : goal.returns-in-Ok-clause-puts
returns-in-Ok-clause-puts g c =
    put_done c.args.descriptor.now (entry c.args.book.now) c.args.pairs.now c.set.new.self c.args.layer c.args.offset _ c.digest_of-left.result c.digest_of-right.result
    (g.D.Disk.state c.args.disk.now) (g.D.Disk.state c.write_pair.new.disk) c.in-Ok.field-0 c.chunk-chunk.ensures.valid c.requires.rooted
    (λ i. chunk_place (c.chunk-chunk.ensures.chunk i) (c.pair_slot-slot.ensures i) + c.chunk-chunk.ensures.chunk i) c.in-Ok.ensures.long
    (ap (λ s. get_or c.args.pairs.now s false) (sym c.pair_slot-slot.ensures) ∙ sym c.has.ensures ∙ c.if-has.false)
    (same_joined (entry c.args.book.now) c.args.layer c.args.offset c.digest_of-left.result c.digest_of-right.result c.requires.there
    c.digest_of-left.ensures.digest c.digest_of-right.ensures.digest)
    (c.set.ensures ∙ ap (λ s. set c.args.pairs.now s true) c.pair_slot-slot.ensures) c.in-Ok.ensures.written

pub returns-in-Err-clause-does : goal.returns-in-Err-clause-does
returns-in-Err-clause-does g c =
    pair_fails (g.D.Disk.state c.args.disk.now) (g.D.Disk.state c.write_pair.new.disk) _ _ c.in-Err.fault (omega arith) c.in-Err.ensures.written

pub returns-in-Err-clause-puts : goal.returns-in-Err-clause-puts
returns-in-Err-clause-puts g c =
    put_refused c.args.descriptor.now (entry c.args.book.now) c.args.pairs.now c.args.layer c.args.offset _ _
    (g.D.Disk.state c.args.disk.now) (g.D.Disk.state c.write_pair.new.disk) c.in-Err.fault c.chunk-chunk.ensures.valid c.requires.rooted
    (λ i. chunk_place (c.chunk-chunk.ensures.chunk i) (c.pair_slot-slot.ensures i) + c.chunk-chunk.ensures.chunk i) c.in-Err.ensures.long
    (ap (λ s. get_or c.args.pairs.now s false) (sym c.pair_slot-slot.ensures) ∙ sym c.has.ensures ∙ c.if-has.false) c.in-Err.ensures.written

pub returns-then-has-clause-wrote : goal.returns-then-has-clause-wrote
returns-then-has-clause-wrote g c =
    wrote_stored c.args.descriptor.now (entry c.args.book.now) c.args.layer c.args.offset c.args.pairs.now (g.D.Disk.state c.args.disk.now)
    (ap (λ s. get_or c.args.pairs.now s false) (sym c.pair_slot-slot.ensures) ∙ sym c.has.ensures ∙ c.if-has.true)

pub returns-in-Ok-clause-wrote : goal.returns-in-Ok-clause-wrote
returns-in-Ok-clause-wrote g c =
    wrote_pair c.args.descriptor.now (entry c.args.book.now) c.args.layer c.args.offset _ c.digest_of-left.result c.digest_of-right.result c.args.pairs.now c.set.new.self
    (g.D.Disk.state c.args.disk.now) (g.D.Disk.state c.write_pair.new.disk) c.in-Ok.field-0
    (ap (λ s. get_or c.args.pairs.now s false) (sym c.pair_slot-slot.ensures) ∙ sym c.has.ensures ∙ c.if-has.false)
    (same_joined (entry c.args.book.now) c.args.layer c.args.offset c.digest_of-left.result c.digest_of-right.result c.requires.there
    c.digest_of-left.ensures.digest c.digest_of-right.ensures.digest)
    (λ i. chunk_place (c.chunk-chunk.ensures.chunk i) (c.pair_slot-slot.ensures i) + c.chunk-chunk.ensures.chunk i)
    (c.set.ensures ∙ ap (λ s. set c.args.pairs.now s true) c.pair_slot-slot.ensures) c.in-Ok.ensures.written
