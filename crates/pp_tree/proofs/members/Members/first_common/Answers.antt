use Rattle.std.proofs.Common.{◌≡◌, ℕ, ◌+◌, ◌*◌, ◌/◌, ◌%◌, ◌<◌, ◌≤◌, ◌==◌, ◌&&◌, false, true, length, sym, ap, ◌∙◌, arith, slice_index, slice_index_or, bit_and}
use Rattle.std.specs.Int.{bit_at}
use Rattle.std.proofs.lemmas.List.{get_or_default}
use Rattle.std.proofs.lemmas.Bool.{and_parts}
use Rattle.std.proofs.lemmas.Nat.Bits.{bit_at-zero}
use Rattle.pp_terms.proofs.Facts.{member_below}
use Rattle.pp_tree.specs.Bits.{bit_of}
use Rattle.pp_tree.specs.Sets.{is_in_all}
use Rattle.pp_tree.proofs.Marking.{value_size, common_of, common_zero, common_read, all_bit, marked, word_within, passed, skipped, found}
use Rattle.pp_tree.proofs.members.Members.first_common.Goals as goal
use Rattle.pp_tree.proofs.members.Members.first_common.Goals.{After-deref-in-loop-w-2, In-Some, After-index-in-Some-2}

-- as many words and marks
sizes : (c : After-deref-in-loop-w-2)
    → (length c.other.inside.words.items ≡ length c.self.inside.words.items) × (length c.third.inside.words.items ≡ length c.self.inside.words.items)
sizes c =
    let mine = value_size c.self.inside.count c.self.inside.words.items c.args.self.now c.self.view_is in
    let his = value_size c.other.inside.count c.other.inside.words.items c.args.other.now c.other.view_is in
    let its = value_size c.third.inside.count c.third.inside.words.items c.args.third.now c.third.view_is in (
      omega (arith, mine, his, c.requires.other, c.self.invariant.size, c.other.invariant.size),
      omega (arith, mine, its, c.requires.third, c.self.invariant.size, c.third.invariant.size),
    )

-- a number is in all three exactly where their words have its bit
bits_in : (c : After-deref-in-loop-w-2) (k : ℕ)
    → is_in_all c.args.self.now c.args.other.now c.args.third.now k
    ≡ (bit_at (common_of c.self.inside.words.items c.other.inside.words.items c.third.inside.words.items (k / 64)) (k % 64) == 1)
bits_in c k =
    all_bit c.self.inside.count c.other.inside.count c.third.inside.count c.self.inside.words.items c.other.inside.words.items c.third.inside.words.items
    c.args.self.now c.args.other.now c.args.third.now k c.self.view_is c.other.view_is c.third.view_is
    c.self.invariant.inside c.other.invariant.inside c.third.invariant.inside

-- words that are not marked in all three have nothing in common
unmarked_zero : (c : After-deref-in-loop-w-2) (w : ℕ)
    → (bit_of c.deref.result.now w && (bit_of c.deref-in-loop-w.result.now w && bit_of c.deref-in-loop-w-2.result.now w)) ≡ false
    → common_of c.self.inside.words.items c.other.inside.words.items c.third.inside.words.items w ≡ 0
unmarked_zero c w none =
    common_zero (slice_index c.self.inside.words.items w) (slice_index c.other.inside.words.items w) (slice_index c.third.inside.words.items w)
    (bit_of c.deref.result.now w) (bit_of c.deref-in-loop-w.result.now w) (bit_of c.deref-in-loop-w-2.result.now w)
    (ap (λ xs. bit_of xs w) c.deref.ensures.value ∙ c.self.invariant.any_marks w)
    (ap (λ xs. bit_of xs w) c.deref-in-loop-w.ensures.value ∙ c.other.invariant.any_marks w)
    (ap (λ xs. bit_of xs w) c.deref-in-loop-w-2.ensures.value ∙ c.third.invariant.any_marks w)
    none

-- nothing in the words passed over, of which some are not marked
earlier : (c : After-deref-in-loop-w-2) (w : ℕ)
    → ((v : ℕ) → c.loop-w.from ≤ v → v < w
    → (bit_of c.deref.result.now v && (bit_of c.deref-in-loop-w.result.now v && bit_of c.deref-in-loop-w-2.result.now v)) ≡ false)
    → (k : ℕ) → 0 ≤ k → k < 64 * w
    → (bit_at (common_of c.self.inside.words.items c.other.inside.words.items c.third.inside.words.items (k / 64)) (k % 64) == 1) ≡ false
earlier c w none =
    skipped (common_of c.self.inside.words.items c.other.inside.words.items c.third.inside.words.items) 0 c.loop-w.from w
    (λ k _ lt. sym (bits_in c k) ∙ c.loop-w.invariant k lt)
    (λ v low high. unmarked_zero c v (none v low high))

-- the word that is looked at
within : (c : In-Some) → c.in-Some.w < length c.self.inside.words.items
within c =
    word_within c.self.inside.words.items c.in-Some.w
    (marked (slice_index c.self.inside.words.items c.in-Some.w) 0 (bit_of c.self.inside.any.items c.in-Some.w) (c.self.invariant.any_marks c.in-Some.w)
    (ap (λ xs. bit_of xs c.in-Some.w) (sym c.deref.ensures.value)
    ∙ (and_parts (bit_of c.deref.result.now c.in-Some.w) (bit_of c.deref-in-loop-w.result.now c.in-Some.w && bit_of c.deref-in-loop-w-2.result.now c.in-Some.w) c.in-Some.ensures.1).0))

-- what it has in common
read : (c : After-index-in-Some-2) → c.in-Some.w < length c.self.inside.words.items
    → length c.other.inside.words.items ≡ length c.self.inside.words.items → length c.third.inside.words.items ≡ length c.self.inside.words.items
    → bit_and (bit_and c.index.result.now c.index-in-Some.result.now) c.index-in-Some-2.result.now
    ≡ common_of c.self.inside.words.items c.other.inside.words.items c.third.inside.words.items c.in-Some.w
read c lt his its =
    common_read c.self.inside.words.items c.other.inside.words.items c.third.inside.words.items c.in-Some.w c.index.result.now c.index-in-Some.result.now c.index-in-Some-2.result.now
    (c.index.ensures ∙ get_or_default c.self.inside.words.items c.in-Some.w c.index.result.now 0 lt)
    (c.index-in-Some.ensures ∙ get_or_default c.other.inside.words.items c.in-Some.w c.index-in-Some.result.now 0 (omega (arith, lt, his)))
    (c.index-in-Some-2.ensures ∙ get_or_default c.third.inside.words.items c.in-Some.w c.index-in-Some-2.result.now 0 (omega (arith, lt, its)))

pub next_common-requires-clause-other : goal.next_common-requires-clause-other
next_common-requires-clause-other c =
    omega (arith, (sizes c).0, c.self.invariant.any_size, c.other.invariant.any_size, ap (λ xs. length xs) c.deref.ensures.value, ap (λ xs. length xs) c.deref-in-loop-w.ensures.value)

pub next_common-requires-clause-third : goal.next_common-requires-clause-third
next_common-requires-clause-third c =
    omega (arith, (sizes c).1, c.self.invariant.any_size, c.third.invariant.any_size, ap (λ xs. length xs) c.deref.ensures.value, ap (λ xs. length xs) c.deref-in-loop-w-2.ensures.value)

pub index-requires-in-Some : goal.index-requires-in-Some
index-requires-in-Some c = omega (arith, within (goal.at.index-requires-in-Some c).In-Some, (sizes (goal.at.index-requires-in-Some c).After-deref-in-loop-w-2).0)

pub index-requires-in-Some-2 : goal.index-requires-in-Some-2
index-requires-in-Some-2 c = omega (arith, within (goal.at.index-requires-in-Some-2 c).In-Some, (sizes (goal.at.index-requires-in-Some-2 c).After-deref-in-loop-w-2).1)

pub returns-then-common-ne0 : goal.returns-then-common-ne0
returns-then-common-ne0 c =
    let f : ℕ → ℕ = common_of c.self.inside.words.items c.other.inside.words.items c.third.inside.words.items in
    let start = (goal.at.returns-then-common-ne0 c).After-deref-in-loop-w-2 in
    let size = sizes start in
    let lt : c.in-Some.w < length c.self.inside.words.items = within (goal.at.returns-then-common-ne0 c).In-Some in
    let word : bit_and (bit_and c.index.result.now c.index-in-Some.result.now) c.index-in-Some-2.result.now ≡ f c.in-Some.w =
    read (goal.at.returns-then-common-ne0 c).After-index-in-Some-2 lt size.0 size.1 in
    let here : is_in_all c.args.self.now c.args.other.now c.args.third.now (64 * c.in-Some.w + c.lowest.result) ≡ true =
    bits_in start (64 * c.in-Some.w + c.lowest.result)
    ∙ found f c.in-Some.w c.lowest.result (bit_and (bit_and c.index.result.now c.index-in-Some.result.now) c.index-in-Some-2.result.now) word c.lowest.ensures.range (ap (λ (b : ℕ). b == 1) c.lowest.ensures.here) in (
      member_below c.args.self.now (64 * c.in-Some.w + c.lowest.result)
          (and_parts (slice_index_or c.args.self.now (64 * c.in-Some.w + c.lowest.result) false)
          (slice_index_or c.args.other.now (64 * c.in-Some.w + c.lowest.result) false && slice_index_or c.args.third.now (64 * c.in-Some.w + c.lowest.result) false) here).0,
      here,
      (λ k high. bits_in start k
          ∙ passed f 0 c.in-Some.w 0 c.lowest.result (bit_and (bit_and c.index.result.now c.index-in-Some.result.now) c.index-in-Some-2.result.now) word (omega (arith, c.lowest.ensures.range))
          (λ j low less. earlier start c.in-Some.w c.in-Some.ensures.2 j low (omega (arith, less)))
          (λ j _ less. ap (λ (b : ℕ). b == 1) (c.lowest.ensures.below j less)) k (omega arith) high),
    )

pub loop-w-smaller : goal.loop-w-smaller
loop-w-smaller c = omega (arith, within (goal.at.loop-w-smaller c).In-Some, c.in-Some.ensures.0)

pub loop-w-preserved : goal.loop-w-preserved
loop-w-preserved c =
    let f : ℕ → ℕ = common_of c.self.inside.words.items c.other.inside.words.items c.third.inside.words.items in
    let start = (goal.at.loop-w-preserved c).After-deref-in-loop-w-2 in
    let size = sizes start in
    let word : bit_and (bit_and c.index.result.now c.index-in-Some.result.now) c.index-in-Some-2.result.now ≡ f c.in-Some.w =
    read (goal.at.loop-w-preserved c).After-index-in-Some-2 (within (goal.at.loop-w-preserved c).In-Some) size.0 size.1 in
    λ k high. bits_in start k
    ∙ passed f 0 c.in-Some.w 0 64 (bit_and (bit_and c.index.result.now c.index-in-Some.result.now) c.index-in-Some-2.result.now) word (omega arith)
    (λ j low less. earlier start c.in-Some.w c.in-Some.ensures.2 j low (omega (arith, less)))
    (λ j _ _. ap (λ (v : ℕ). bit_at v j == 1) c.if-common-ne0.false ∙ ap (λ (b : ℕ). b == 1) (bit_at-zero j)) k (omega arith) (omega (arith, high))

pub returns : goal.returns
returns c = λ k.
    bits_in (goal.at.returns c).After-deref-in-loop-w-2 k
    ∙ earlier (goal.at.returns c).After-deref-in-loop-w-2 (k / 64 + 1) (λ v low _. c.in_default.ensures v low) k (omega arith) (omega arith)
