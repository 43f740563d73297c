use Rattle.std.proofs.Common.{◌≡◌, ◌<◌, ◌/◌, ◌==◌, ◌&&◌, ◌||◌, not, length, sym, subst, ap, ◌∙◌, arith, slice_set}
use Rattle.std.specs.Vec.{with_items}
use Rattle.std.proofs.lemmas.List.{with_items_is}
use Rattle.pp_tree.specs.Bits.{bit_of}
use Rattle.pp_tree.specs.Marks.{IsMarked, full_word}
use Rattle.pp_tree.proofs.Marking.{value_bit, value_size}
use Rattle.pp_avail.specs.Rows.{is_among}
use Rattle.pp_avail.proofs.Rows.{row_written, word_set, bits_written, row_bits, written_inside}
use Rattle.pp_avail.proofs.row.Row.put_word.Goals as goal

pub full-full-requires : goal.full-full-requires
full-full-requires c = omega (arith, c.requires.here, c.self.invariant.small, value_size c.self.inside.count c.self.inside.words.items c.args.self.now c.self.view_is)

pub index_mut-requires : goal.index_mut-requires
index_mut-requires c = omega (arith, c.requires.here, c.self.invariant.size, value_size c.self.inside.count c.self.inside.words.items c.args.self.now c.self.view_is)

pub put-requires : goal.put-requires
put-requires c = omega (
  arith,
  c.requires.here,
  c.self.invariant.size,
  c.self.invariant.any_size,
  ap (λ xs. length xs) c.deref_mut.ensures.value,
  value_size c.self.inside.count c.self.inside.words.items c.args.self.now c.self.view_is,
)

pub put-requires-2 : goal.put-requires-2
put-requires-2 c = omega (
  arith,
  c.requires.here,
  c.self.invariant.size,
  c.self.invariant.lacks_size,
  ap (λ xs. length xs) c.deref_mut-2.ensures.value,
  value_size c.self.inside.count c.self.inside.words.items c.args.self.now c.self.view_is,
)

pub invariant_of-self : goal.invariant_of-self
invariant_of-self c =
    let size : length c.args.self.now ≡ c.self.inside.count = value_size c.self.inside.count c.self.inside.words.items c.args.self.now c.self.view_is in
    let inside : c.args.w < length c.self.inside.words.items = omega (arith, c.requires.here, c.self.invariant.size, size) in
    let any_is : (with_items c.self.inside.any c.put.new.words).items ≡ c.put.new.words =
    with_items_is c.self.inside.any c.put.new.words (c.put.ensures.len ∙ c.deref_mut.ensures.len) in
    let lacks_is : (with_items c.self.inside.lacks c.put-2.new.words).items ≡ c.put-2.new.words =
    with_items_is c.self.inside.lacks c.put-2.new.words (c.put-2.ensures.len ∙ c.deref_mut-2.ensures.len) in
    let set = word_set c.self.inside.words.items c.args.w c.args.word inside in
    subst (λ xs. IsMarked c.self.inside.count (slice_set c.self.inside.words.items c.args.w c.args.word) xs (with_items c.self.inside.lacks c.put-2.new.words).items) (sym any_is)
    (subst (λ xs. IsMarked c.self.inside.count (slice_set c.self.inside.words.items c.args.w c.args.word) c.put.new.words xs) (sym lacks_is)
    (row_written c.self.inside.count c.self.inside.words.items c.self.inside.any.items c.self.inside.lacks.items c.put.new.words c.put-2.new.words c.args.w c.args.word c.self.invariant
    (c.put.ensures.len ∙ ap (λ xs. length xs) c.deref_mut.ensures.value)
    (c.put-2.ensures.len ∙ ap (λ xs. length xs) c.deref_mut-2.ensures.value)
    (λ i past. written_inside c.self.inside.count c.self.inside.words.items c.self.inside.any.items c.self.inside.lacks.items c.args.w c.args.word i c.self.invariant inside
    (λ k among. omega (arith, c.requires.inside k among, size)) past)
    (λ v other. c.put.ensures.bits v other ∙ ap (λ xs. bit_of xs v) c.deref_mut.ensures.value)
    (λ v other. c.put-2.ensures.bits v other ∙ ap (λ xs. bit_of xs v) c.deref_mut-2.ensures.value)
    (c.put.ensures.here ∙ ap (λ v. not (v == 0)) (sym set))
    (c.put-2.ensures.here ∙ ap (λ v. not (c.args.word == v)) c.full-full.ensures ∙ ap (λ v. not (v == full_word c.self.inside.count c.args.w)) (sym set))))

pub returns-clause-bits : goal.returns-clause-bits
returns-clause-bits c = λ i.
    let size : length c.args.self.now ≡ c.self.inside.count = value_size c.self.inside.count c.self.inside.words.items c.args.self.now c.self.view_is in
    let inside : c.args.w < length c.self.inside.words.items = omega (arith, c.requires.here, c.self.invariant.size, size) in
    row_bits c.self.inside.count (slice_set c.self.inside.words.items c.args.w c.args.word) i
    (λ k past. written_inside c.self.inside.count c.self.inside.words.items c.self.inside.any.items c.self.inside.lacks.items c.args.w c.args.word k c.self.invariant inside
    (λ j among. omega (arith, c.requires.inside j among, size)) past)
    ∙ bits_written c.self.inside.words.items c.args.w c.args.word i inside
    ∙ ap (λ b. is_among c.args.w c.args.word i || (not (i / 64 == c.args.w) && b)) (sym (value_bit c.self.inside.count c.self.inside.words.items c.args.self.now i c.self.view_is c.self.invariant.inside))
