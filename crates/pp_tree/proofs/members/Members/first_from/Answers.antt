use Rattle.std.proofs.Common.{◌≡◌, ℕ, ◌+◌, ◌*◌, ◌/◌, ◌%◌, ◌==◌, refl, sym, ap, ◌∙◌, arith, slice_index}
use Rattle.std.proofs.lemmas.List.{get_or_default}
use Rattle.pp_tree.specs.Bits.{bit_of}
use Rattle.pp_tree.proofs.Marking.{value_bit, member_found, passed, searched, found, unmarked, marked, word_within}
use Rattle.pp_tree.proofs.members.Members.first_from.Goals as goal

pub returns-then-from-self : goal.returns-then-from-self
returns-then-from-self c = λ k le.
    value_bit c.self.inside.count c.self.inside.words.items c.args.self.now k c.self.view_is c.self.invariant.inside
    ∙ c.self.invariant.inside k (omega (arith, le, c.if-from-self.true))

pub returns-in-Some : goal.returns-in-Some
returns-in-Some c =
    let f : ℕ → ℕ = λ w. slice_index c.self.inside.words.items w in
    let at : c.index.result.now ≡ f (c.args.from / 64) =
    c.index.ensures ∙ get_or_default c.self.inside.words.items (c.args.from / 64) c.index.result.now 0 (omega (arith, c.self.invariant.size, c.if-from-self.false)) in
    member_found c.self.inside.count c.self.inside.words.items c.args.self.now c.args.from (64 * (c.args.from / 64) + c.in-Some.i) c.self.view_is c.self.invariant.inside
    (omega (arith, c.in-Some.ensures.first.0))
    (found f (c.args.from / 64) c.in-Some.i c.index.result.now at c.in-Some.ensures.range c.in-Some.ensures.first.1)
    (passed f c.args.from (c.args.from / 64) (c.args.from % 64) c.in-Some.i c.index.result.now at (omega (arith, c.in-Some.ensures.range))
    (λ k low high. absurd (omega (arith, low, high))) c.in-Some.ensures.first.2)

pub returns-in_err-w : goal.returns-in_err-w
returns-in_err-w c =
    let f : ℕ → ℕ = λ w. slice_index c.self.inside.words.items w in
    let at : c.index.result.now ≡ f (c.args.from / 64) =
    c.index.ensures ∙ get_or_default c.self.inside.words.items (c.args.from / 64) c.index.result.now 0 (omega (arith, c.self.invariant.size, c.if-from-self.false)) in
    rw c.from_residual.ensures (λ k le.
    value_bit c.self.inside.count c.self.inside.words.items c.args.self.now k c.self.view_is c.self.invariant.inside
    ∙ searched f c.args.from (k / 64 + 1) 0 c.index.result.now (f (k / 64 + 1)) at refl (omega arith) c.in_default.ensures.first
    (λ u low _. unmarked (f u) 0 (bit_of c.self.inside.any.items u) (c.self.invariant.any_marks u)
    (ap (λ xs. bit_of xs u) (sym c.deref.ensures.value) ∙ c.in_err-w.ensures u low))
    (λ j less. absurd (omega (arith, less))) k le (omega arith))

pub index-requires-2 : goal.index-requires-2
index-requires-2 c =
    let some : slice_index c.self.inside.words.items c.in_ok-w.w ≡ 0 → ⊥ =
    marked (slice_index c.self.inside.words.items c.in_ok-w.w) 0 (bit_of c.self.inside.any.items c.in_ok-w.w) (c.self.invariant.any_marks c.in_ok-w.w)
    (ap (λ xs. bit_of xs c.in_ok-w.w) (sym c.deref.ensures.value) ∙ c.in_ok-w.ensures.1) in
    omega (arith, word_within c.self.inside.words.items c.in_ok-w.w some)

pub returns : goal.returns
returns c =
    let f : ℕ → ℕ = λ w. slice_index c.self.inside.words.items w in
    let at : c.index.result.now ≡ f (c.args.from / 64) =
    c.index.ensures ∙ get_or_default c.self.inside.words.items (c.args.from / 64) c.index.result.now 0 (omega (arith, c.self.invariant.size, c.if-from-self.false)) in
    let some : slice_index c.self.inside.words.items c.in_ok-w.w ≡ 0 → ⊥ =
    marked (slice_index c.self.inside.words.items c.in_ok-w.w) 0 (bit_of c.self.inside.any.items c.in_ok-w.w) (c.self.invariant.any_marks c.in_ok-w.w)
    (ap (λ xs. bit_of xs c.in_ok-w.w) (sym c.deref.ensures.value) ∙ c.in_ok-w.ensures.1) in
    let last : c.index-2.result.now ≡ f c.in_ok-w.w =
    c.index-2.ensures ∙ get_or_default c.self.inside.words.items c.in_ok-w.w c.index-2.result.now 0 (word_within c.self.inside.words.items c.in_ok-w.w some) in
    member_found c.self.inside.count c.self.inside.words.items c.args.self.now c.args.from (64 * c.in_ok-w.w + c.lowest.result) c.self.view_is c.self.invariant.inside
    (omega (arith, c.in_ok-w.ensures.0))
    (found f c.in_ok-w.w c.lowest.result c.index-2.result.now last c.lowest.ensures.range (ap (λ (b : ℕ). b == 1) c.lowest.ensures.here))
    (searched f c.args.from c.in_ok-w.w c.lowest.result c.index.result.now c.index-2.result.now at last (omega (arith, c.lowest.ensures.range)) c.in_default.ensures.first
    (λ u low high. unmarked (f u) 0 (bit_of c.self.inside.any.items u) (c.self.invariant.any_marks u)
    (ap (λ xs. bit_of xs u) (sym c.deref.ensures.value) ∙ c.in_ok-w.ensures.2 u low high))
    (λ j less. ap (λ (b : ℕ). b == 1) (c.lowest.ensures.below j less)))
