use Rattle.std.proofs.Common.{◌≡◌, ◌/◌, ◌<◌, ◌==◌, not, length, sym, ap, ◌∙◌, arith, slice_index, slice_index_or, slice_set, subst}
use Rattle.std.specs.Vec.{with_items}
use Rattle.std.proofs.lemmas.List.{with_items_is, get_or_default}
use Rattle.pp_tree.specs.Bits.{bit_of, bits_of}
use Rattle.pp_tree.specs.Marks.{IsMarked}
use Rattle.pp_tree.proofs.Marking.{value_size, value_written, written}
use Rattle.pp_avail.proofs.row.Row.write.Goals as goal

pub put-requires : goal.put-requires
put-requires c =
    omega (arith, c.requires, c.self.invariant.size, value_size c.self.inside.count c.self.inside.words.items c.args.self.now c.self.view_is, ap (λ xs. length xs) c.deref_mut.ensures.value)

pub index-changed-requires : goal.index-changed-requires
index-changed-requires c =
    omega (arith, c.requires, c.self.invariant.size, value_size c.self.inside.count c.self.inside.words.items c.args.self.now c.self.view_is)

pub put-requires-2 : goal.put-requires-2
put-requires-2 c =
    omega (arith, c.requires, c.self.invariant.size, c.self.invariant.any_size, value_size c.self.inside.count c.self.inside.words.items c.args.self.now c.self.view_is, ap (λ xs. length xs) c.deref_mut-2.ensures.value)

pub full-full-requires : goal.full-full-requires
full-full-requires c =
    omega (arith, c.requires, c.self.invariant.small, value_size c.self.inside.count c.self.inside.words.items c.args.self.now c.self.view_is)

pub put-requires-3 : goal.put-requires-3
put-requires-3 c =
    omega (arith, c.requires, c.self.invariant.size, c.self.invariant.lacks_size, value_size c.self.inside.count c.self.inside.words.items c.args.self.now c.self.view_is, ap (λ xs. length xs) c.deref_mut-3.ensures.value)

pub invariant_of-self : goal.invariant_of-self
invariant_of-self c =
    let words_is : (with_items c.self.inside.words c.put.new.words).items ≡ c.put.new.words =
    with_items_is c.self.inside.words c.put.new.words (c.put.ensures.len ∙ c.deref_mut.ensures.len) in
    let any_is : (with_items c.self.inside.any c.put-2.new.words).items ≡ c.put-2.new.words =
    with_items_is c.self.inside.any c.put-2.new.words (c.put-2.ensures.len ∙ c.deref_mut-2.ensures.len) in
    let lacks_is : (with_items c.self.inside.lacks c.put-3.new.words).items ≡ c.put-3.new.words =
    with_items_is c.self.inside.lacks c.put-3.new.words (c.put-3.ensures.len ∙ c.deref_mut-3.ensures.len) in
    let size : length c.put.new.words ≡ length c.self.inside.words.items = c.put.ensures.len ∙ ap (λ xs. length xs) c.deref_mut.ensures.value in
    let lt : c.args.i / 64 < length c.put.new.words =
    omega (arith, c.requires, size, c.self.invariant.size, value_size c.self.inside.count c.self.inside.words.items c.args.self.now c.self.view_is) in
    let read : c.index-changed.result.now ≡ slice_index c.put.new.words (c.args.i / 64) =
    c.index-changed.ensures ∙ ap (λ xs. slice_index_or xs (c.args.i / 64) c.index-changed.result.now) words_is ∙ get_or_default c.put.new.words (c.args.i / 64) c.index-changed.result.now 0 lt in
    subst (λ xs. IsMarked c.self.inside.count xs (with_items c.self.inside.any c.put-2.new.words).items (with_items c.self.inside.lacks c.put-3.new.words).items) (sym words_is)
    (subst (λ xs. IsMarked c.self.inside.count c.put.new.words xs (with_items c.self.inside.lacks c.put-3.new.words).items) (sym any_is)
    (subst (λ xs. IsMarked c.self.inside.count c.put.new.words c.put-2.new.words xs) (sym lacks_is)
    (written c.self.inside.count c.self.inside.words.items c.self.inside.any.items c.self.inside.lacks.items c.put.new.words c.put-2.new.words c.put-3.new.words c.args.i
    c.self.invariant
    (omega (arith, c.requires, value_size c.self.inside.count c.self.inside.words.items c.args.self.now c.self.view_is))
    size
    (c.put-2.ensures.len ∙ ap (λ xs. length xs) c.deref_mut-2.ensures.value)
    (c.put-3.ensures.len ∙ ap (λ xs. length xs) c.deref_mut-3.ensures.value)
    (λ w other. c.put.ensures.others w other ∙ ap (λ xs. slice_index xs w) c.deref_mut.ensures.value)
    (λ k other. c.put.ensures.bits k other ∙ ap (λ xs. bit_of xs k) c.deref_mut.ensures.value)
    (λ w other. c.put-2.ensures.bits w other ∙ ap (λ xs. bit_of xs w) c.deref_mut-2.ensures.value)
    (λ w other. c.put-3.ensures.bits w other ∙ ap (λ xs. bit_of xs w) c.deref_mut-3.ensures.value)
    (c.put-2.ensures.here ∙ ap (λ v. not (v == 0)) read)
    (c.put-3.ensures.here ∙ ap (λ v. not (v == c.full-full.result)) read ∙ ap (λ v. not (slice_index c.put.new.words (c.args.i / 64) == v)) c.full-full.ensures))))

pub returns : goal.returns
returns c =
    let words_is : (with_items c.self.inside.words c.put.new.words).items ≡ c.put.new.words =
    with_items_is c.self.inside.words c.put.new.words (c.put.ensures.len ∙ c.deref_mut.ensures.len) in
    ap (λ xs. bits_of c.self.inside.count xs) words_is
    ∙ value_written c.self.inside.count c.self.inside.words.items c.put.new.words c.args.i c.args.value
    (omega (arith, c.requires, value_size c.self.inside.count c.self.inside.words.items c.args.self.now c.self.view_is))
    (λ k other. c.put.ensures.bits k other ∙ ap (λ xs. bit_of xs k) c.deref_mut.ensures.value) c.put.ensures.here
    ∙ ap (λ xs. slice_set xs c.args.i c.args.value) c.self.view_is
