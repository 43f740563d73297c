use Rattle.std.proofs.Common.{◌≡◌, ◌/◌, ◌<◌, ◌==◌, not, length, sym, ap, ◌∙◌, arith, slice_index, slice_index_or, slice_set, subst}
use Rattle.std.specs.Vec.{with_items}
use Rattle.std.proofs.lemmas.List.{with_items_is, get_or_default}
use Rattle.pp_tree.specs.Bits.{bit_of, bits_of}
use Rattle.pp_tree.specs.Marks.{IsMarked, full_word}
use Rattle.pp_tree.proofs.Marking.{value_size, value_written, written}
use Rattle.pp_tree.proofs.members.Members.write.Goals as goal
use Rattle.pp_tree.proofs.members.Members.write.Goals.{After-index-old}

pub put-requires : goal.put-requires
put-requires c =
    omega (arith, c.requires, c.self.invariant.size, value_size c.self.inside.count c.self.inside.words.items c.args.self.now c.self.view_is, ap (λ xs. length xs) c.deref_mut.ensures.value)

pub index-word-requires : goal.index-word-requires
index-word-requires c =
    omega (arith, c.requires, c.self.invariant.size, value_size c.self.inside.count c.self.inside.words.items c.args.self.now c.self.view_is)

pub index-old-requires : goal.index-old-requires
index-old-requires c =
    omega (arith, c.requires, c.self.invariant.size, value_size c.self.inside.count c.self.inside.words.items c.args.self.now c.self.view_is)

-- the word before
before : (c : After-index-old) → c.index-old.result.now ≡ slice_index c.self.inside.words.items (c.args.i / 64)
before c =
    c.index-old.ensures ∙ get_or_default c.self.inside.words.items (c.args.i / 64) c.index-old.result.now 0
    (omega (arith, c.requires, c.self.invariant.size, value_size c.self.inside.count c.self.inside.words.items c.args.self.now c.self.view_is))

pub change-requires-clause-before : goal.change-requires-clause-before
change-requires-clause-before c =
    ap (λ xs. bit_of xs (c.args.i / 64)) c.deref_mut-2.ensures.value ∙ c.self.invariant.any_marks (c.args.i / 64)
    ∙ ap (λ v. not (v == 0)) (sym (before (goal.at.change-requires-clause-before c).After-index-old))

pub change-requires-2-clause-before : goal.change-requires-2-clause-before
change-requires-2-clause-before c =
    ap (λ xs. bit_of xs (c.args.i / 64)) c.deref_mut-3.ensures.value ∙ c.self.invariant.lacks_marks (c.args.i / 64)
    ∙ ap (λ v. not (v == full_word c.self.inside.count (c.args.i / 64))) (sym (before (goal.at.change-requires-2-clause-before c).After-index-old))
    ∙ ap (λ v. not (c.index-old.result.now == v)) (sym c.full-full.ensures)

pub change-requires-clause-inside : goal.change-requires-clause-inside
change-requires-clause-inside c =
    omega (arith, c.requires, c.self.invariant.size, c.self.invariant.any_size, value_size c.self.inside.count c.self.inside.words.items c.args.self.now c.self.view_is, ap (λ xs. length xs) c.deref_mut-2.ensures.value)

pub full-full-requires : goal.full-full-requires
full-full-requires c =
    omega (arith, c.requires, c.self.invariant.small, value_size c.self.inside.count c.self.inside.words.items c.args.self.now c.self.view_is)

pub change-requires-2-clause-inside : goal.change-requires-2-clause-inside
change-requires-2-clause-inside c =
    omega (arith, c.requires, c.self.invariant.size, c.self.invariant.lacks_size, value_size c.self.inside.count c.self.inside.words.items c.args.self.now c.self.view_is, ap (λ xs. length xs) c.deref_mut-3.ensures.value)

pub invariant_of-self : goal.invariant_of-self
invariant_of-self c =
    let words_is : (with_items c.self.inside.words c.put.new.words).items ≡ c.put.new.words =
    with_items_is c.self.inside.words c.put.new.words (c.put.ensures.len ∙ c.deref_mut.ensures.len) in
    let any_is : (with_items c.self.inside.any c.change.new.words).items ≡ c.change.new.words =
    with_items_is c.self.inside.any c.change.new.words (c.change.ensures.len ∙ c.deref_mut-2.ensures.len) in
    let lacks_is : (with_items c.self.inside.lacks c.change-2.new.words).items ≡ c.change-2.new.words =
    with_items_is c.self.inside.lacks c.change-2.new.words (c.change-2.ensures.len ∙ c.deref_mut-3.ensures.len) in
    let size : length c.put.new.words ≡ length c.self.inside.words.items = c.put.ensures.len ∙ ap (λ xs. length xs) c.deref_mut.ensures.value in
    let lt : c.args.i / 64 < length c.put.new.words =
    omega (arith, c.requires, size, c.self.invariant.size, value_size c.self.inside.count c.self.inside.words.items c.args.self.now c.self.view_is) in
    let read : c.index-word.result.now ≡ slice_index c.put.new.words (c.args.i / 64) =
    c.index-word.ensures ∙ ap (λ xs. slice_index_or xs (c.args.i / 64) c.index-word.result.now) words_is ∙ get_or_default c.put.new.words (c.args.i / 64) c.index-word.result.now 0 lt in
    subst (λ xs. IsMarked c.self.inside.count xs (with_items c.self.inside.any c.change.new.words).items (with_items c.self.inside.lacks c.change-2.new.words).items) (sym words_is)
    (subst (λ xs. IsMarked c.self.inside.count c.put.new.words xs (with_items c.self.inside.lacks c.change-2.new.words).items) (sym any_is)
    (subst (λ xs. IsMarked c.self.inside.count c.put.new.words c.change.new.words xs) (sym lacks_is)
    (written c.self.inside.count c.self.inside.words.items c.self.inside.any.items c.self.inside.lacks.items c.put.new.words c.change.new.words c.change-2.new.words c.args.i
    c.self.invariant
    (omega (arith, c.requires, value_size c.self.inside.count c.self.inside.words.items c.args.self.now c.self.view_is))
    size
    (c.change.ensures.len ∙ ap (λ xs. length xs) c.deref_mut-2.ensures.value)
    (c.change-2.ensures.len ∙ ap (λ xs. length xs) c.deref_mut-3.ensures.value)
    (λ w other. c.put.ensures.others w other ∙ ap (λ xs. slice_index xs w) c.deref_mut.ensures.value)
    (λ k other. c.put.ensures.bits k other ∙ ap (λ xs. bit_of xs k) c.deref_mut.ensures.value)
    (λ w other. c.change.ensures.bits w other ∙ ap (λ xs. bit_of xs w) c.deref_mut-2.ensures.value)
    (λ w other. c.change-2.ensures.bits w other ∙ ap (λ xs. bit_of xs w) c.deref_mut-3.ensures.value)
    (c.change.ensures.here ∙ ap (λ v. not (v == 0)) read)
    (c.change-2.ensures.here ∙ ap (λ v. not (v == c.full-full.result)) read ∙ ap (λ v. not (slice_index c.put.new.words (c.args.i / 64) == v)) c.full-full.ensures))))

pub returns : goal.returns
returns c =
    let words_is : (with_items c.self.inside.words c.put.new.words).items ≡ c.put.new.words =
    with_items_is c.self.inside.words c.put.new.words (c.put.ensures.len ∙ c.deref_mut.ensures.len) in
    ap (λ xs. bits_of c.self.inside.count xs) words_is
    ∙ value_written c.self.inside.count c.self.inside.words.items c.put.new.words c.args.i c.args.value
    (omega (arith, c.requires, value_size c.self.inside.count c.self.inside.words.items c.args.self.now c.self.view_is))
    (λ k other. c.put.ensures.bits k other ∙ ap (λ xs. bit_of xs k) c.deref_mut.ensures.value) c.put.ensures.here
    ∙ ap (λ xs. slice_set xs c.args.i c.args.value) c.self.view_is
