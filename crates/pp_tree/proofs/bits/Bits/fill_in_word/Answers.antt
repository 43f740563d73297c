use Rattle.std.proofs.Common.{◌≡◌, ◌/◌, ◌^◌, ◌-◌, ◌&&◌, ◌||◌, nat_le, false, length, sym, ap, ◌∙◌, arith, slice_index, slice_index_or, subst}
use Rattle.std.specs.Vec.{with_items}
use Rattle.std.proofs.lemmas.List.{with_items_is, get_or_default}
use Rattle.pp_tree.specs.Bits.{bit_of, bits_of, IsPacked}
use Rattle.pp_tree.proofs.Packing.{bits_more, packed_more, packed_same, count_is}
use Rattle.pp_tree.proofs.bits.Bits.fill_in_word.Goals as goal

pub fill_word-requires-clause-inside : goal.fill_word-requires-clause-inside
fill_word-requires-clause-inside c =
    omega (arith, c.self.invariant.0, ap (λ xs. length xs) c.self.view_is, count_is c.self.inside.count c.self.inside.words.items, ap (λ xs. length xs) c.deref_mut.ensures.value)

pub invariant_of-self : goal.invariant_of-self
invariant_of-self c =
    let whole : (with_items c.self.inside.words c.fill_word.new.words).items ≡ c.fill_word.new.words =
    with_items_is c.self.inside.words c.fill_word.new.words (c.fill_word.ensures.len ∙ c.deref_mut.ensures.len) in
    let told : (with_items c.self.inside.summary c.fill_word-then-index.new.words).items ≡ c.fill_word-then-index.new.words =
    with_items_is c.self.inside.summary c.fill_word-then-index.new.words (c.fill_word-then-index.ensures.len ∙ c.deref_mut-then-index.ensures.len) in
    let full : slice_index c.fill_word.new.words (c.args.first / 64) ≡ 2 ^ 64 - 1 =
    get_or_default c.fill_word.new.words (c.args.first / 64) 0 c.index.result.now
    (omega (arith, c.fill_word.ensures.len, c.requires.one, c.requires.inside, c.self.invariant.0, ap (λ xs. length xs) c.self.view_is, count_is c.self.inside.count c.self.inside.words.items, ap (λ xs. length xs) c.deref_mut.ensures.value))
    ∙ ap (λ xs. slice_index_or xs (c.args.first / 64) c.index.result.now) (sym whole) ∙ sym c.index.ensures ∙ c.if-index.true in
    subst (λ xs. IsPacked c.self.inside.count xs (with_items c.self.inside.summary c.fill_word-then-index.new.words).items) (sym whole)
    (subst (λ xs. IsPacked c.self.inside.count c.fill_word.new.words xs) (sym told)
    (packed_more c.self.inside.count c.self.inside.words.items c.fill_word.new.words c.self.inside.summary.items c.fill_word-then-index.new.words (c.args.first / 64) c.self.invariant
    (c.fill_word.ensures.len ∙ ap (λ xs. length xs) c.deref_mut.ensures.value) (c.fill_word-then-index.ensures.len ∙ ap (λ xs. length xs) c.deref_mut-then-index.ensures.value)
    (λ k other. c.fill_word.ensures.others k other ∙ ap (λ xs. slice_index xs k) c.deref_mut.ensures.value)
    full
    (λ k. c.fill_word-then-index.ensures.bits k ∙ ap (λ xs. bit_of xs k || (nat_le (c.args.first / 64) k && nat_le k (c.args.first / 64))) c.deref_mut-then-index.ensures.value)))

pub invariant_of-self-else-index : goal.invariant_of-self-else-index
invariant_of-self-else-index c =
    let whole : (with_items c.self.inside.words c.fill_word.new.words).items ≡ c.fill_word.new.words =
    with_items_is c.self.inside.words c.fill_word.new.words (c.fill_word.ensures.len ∙ c.deref_mut.ensures.len) in
    let read : slice_index c.fill_word.new.words (c.args.first / 64) ≡ c.index.result.now =
    get_or_default c.fill_word.new.words (c.args.first / 64) 0 c.index.result.now
    (omega (arith, c.fill_word.ensures.len, c.requires.one, c.requires.inside, c.self.invariant.0, ap (λ xs. length xs) c.self.view_is, count_is c.self.inside.count c.self.inside.words.items, ap (λ xs. length xs) c.deref_mut.ensures.value))
    ∙ ap (λ xs. slice_index_or xs (c.args.first / 64) c.index.result.now) (sym whole) ∙ sym c.index.ensures in
    subst (λ xs. IsPacked c.self.inside.count xs c.self.inside.summary.items) (sym whole)
    (packed_same c.self.inside.count c.self.inside.words.items c.fill_word.new.words c.self.inside.summary.items (c.args.first / 64) c.self.invariant
    (c.fill_word.ensures.len ∙ ap (λ xs. length xs) c.deref_mut.ensures.value)
    (λ k other. c.fill_word.ensures.others k other ∙ ap (λ xs. slice_index xs k) c.deref_mut.ensures.value)
    (λ full. c.fill_word.ensures.full (ap (λ xs. slice_index xs (c.args.first / 64)) c.deref_mut.ensures.value ∙ full))
    (λ full. c.if-index.false (sym read ∙ full)))

pub returns-then-index-clause-bits : goal.returns-then-index-clause-bits
returns-then-index-clause-bits c = λ i.
    let whole : (with_items c.self.inside.words c.fill_word.new.words).items ≡ c.fill_word.new.words =
    with_items_is c.self.inside.words c.fill_word.new.words (c.fill_word.ensures.len ∙ c.deref_mut.ensures.len) in
    let size : c.self.inside.count ≡ length c.args.self.now = sym (count_is c.self.inside.count c.self.inside.words.items) ∙ ap (λ xs. length xs) c.self.view_is in
    ap (λ xs. slice_index_or (bits_of c.self.inside.count xs) i false) whole
    ∙ bits_more c.self.inside.count c.self.inside.words.items c.fill_word.new.words c.args.first c.args.last (omega (arith, size, c.requires.inside))
    (λ k. c.fill_word.ensures.bits k ∙ ap (λ xs. bit_of xs k || (nat_le c.args.first k && nat_le k c.args.last)) c.deref_mut.ensures.value) i
    ∙ ap (λ xs. slice_index_or xs i false || (nat_le c.args.first i && nat_le i c.args.last)) c.self.view_is

pub returns-else-index-clause-bits : goal.returns-else-index-clause-bits
returns-else-index-clause-bits c = λ i.
    let whole : (with_items c.self.inside.words c.fill_word.new.words).items ≡ c.fill_word.new.words =
    with_items_is c.self.inside.words c.fill_word.new.words (c.fill_word.ensures.len ∙ c.deref_mut.ensures.len) in
    let size : c.self.inside.count ≡ length c.args.self.now = sym (count_is c.self.inside.count c.self.inside.words.items) ∙ ap (λ xs. length xs) c.self.view_is in
    ap (λ xs. slice_index_or (bits_of c.self.inside.count xs) i false) whole
    ∙ bits_more c.self.inside.count c.self.inside.words.items c.fill_word.new.words c.args.first c.args.last (omega (arith, size, c.requires.inside))
    (λ k. c.fill_word.ensures.bits k ∙ ap (λ xs. bit_of xs k || (nat_le c.args.first k && nat_le k c.args.last)) c.deref_mut.ensures.value) i
    ∙ ap (λ xs. slice_index_or xs i false || (nat_le c.args.first i && nat_le i c.args.last)) c.self.view_is
