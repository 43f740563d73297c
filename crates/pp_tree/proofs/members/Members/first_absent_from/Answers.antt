use Rattle.std.proofs.Common.{◌≡◌, ℕ, ◌+◌, ◌*◌, ◌/◌, ◌%◌, ◌<◌, ◌==◌, refl, sym, ap, ◌∙◌, arith, slice_index, bit_xor}
use Rattle.std.proofs.lemmas.List.{get_or_default}
use Rattle.pp_tree.specs.Bits.{bit_of}
use Rattle.pp_tree.specs.Marks.{full_word}
use Rattle.pp_tree.proofs.Marking.{value_size, gap_found, gap_filled, gap_within, gaps_of, passed, searched, found, unmarked, marked, no_gap, same_words}
use Rattle.pp_tree.proofs.members.Members.first_absent_from.Goals as goal
use Rattle.pp_tree.proofs.members.Members.first_absent_from.Goals.{After-gaps-2}

pub returns-then-from-self : goal.returns-then-from-self
returns-then-from-self c = λ k le lt. absurd (omega (arith, le, lt, c.if-from-self.true, value_size c.self.inside.count c.self.inside.words.items c.args.self.now c.self.view_is))

pub returns-in-Some : goal.returns-in-Some
returns-in-Some c =
    let f : ℕ → ℕ = gaps_of c.self.inside.words.items c.self.inside.count in
    let at : c.gaps.result ≡ f (c.args.from / 64) =
    c.gaps.ensures ∙ ap (λ (v : ℕ). bit_xor v (full_word c.self.inside.count (c.args.from / 64)))
    (c.index.ensures ∙ get_or_default c.self.inside.words.items (c.args.from / 64) c.index.result.now 0 (omega (arith, c.self.invariant.size, c.if-from-self.false))) in
    gap_found c.self.inside.count c.self.inside.words.items c.args.self.now c.args.from (64 * (c.args.from / 64) + c.in-Some.i) c.self.view_is c.self.invariant.inside
    (omega (arith, c.in-Some.ensures.first.0))
    (found f (c.args.from / 64) c.in-Some.i c.gaps.result at c.in-Some.ensures.range c.in-Some.ensures.first.1)
    (passed f c.args.from (c.args.from / 64) (c.args.from % 64) c.in-Some.i c.gaps.result at (omega (arith, c.in-Some.ensures.range))
    (λ k low high. absurd (omega (arith, low, high))) c.in-Some.ensures.first.2)

pub returns-in_err-w : goal.returns-in_err-w
returns-in_err-w c =
    let f : ℕ → ℕ = gaps_of c.self.inside.words.items c.self.inside.count in
    let at : c.gaps.result ≡ f (c.args.from / 64) =
    c.gaps.ensures ∙ ap (λ (v : ℕ). bit_xor v (full_word c.self.inside.count (c.args.from / 64)))
    (c.index.ensures ∙ get_or_default c.self.inside.words.items (c.args.from / 64) c.index.result.now 0 (omega (arith, c.self.invariant.size, c.if-from-self.false))) in
    rw c.from_residual.ensures (λ k le lt.
    gap_filled c.self.inside.count c.self.inside.words.items c.args.self.now k c.self.view_is c.self.invariant.inside
    (omega (arith, lt, value_size c.self.inside.count c.self.inside.words.items c.args.self.now c.self.view_is))
    (searched f c.args.from (k / 64 + 1) 0 c.gaps.result (f (k / 64 + 1)) at refl (omega arith) c.in_default.ensures.first
    (λ u low _. no_gap (slice_index c.self.inside.words.items u) (full_word c.self.inside.count u)
    (unmarked (slice_index c.self.inside.words.items u) (full_word c.self.inside.count u) (bit_of c.self.inside.lacks.items u) (c.self.invariant.lacks_marks u)
    (ap (λ xs. bit_of xs u) (sym c.deref.ensures.value) ∙ c.in_err-w.ensures u low)))
    (λ j less. absurd (omega (arith, less))) k le (omega arith)))

-- the word that was found lacks a number
gap_at : (c : After-gaps-2) → (c.gaps-2.result ≡ gaps_of c.self.inside.words.items c.self.inside.count c.in_ok-w.w) × (0 < c.gaps-2.result)
gap_at c =
    let some : slice_index c.self.inside.words.items c.in_ok-w.w ≡ full_word c.self.inside.count c.in_ok-w.w → ⊥ =
    marked (slice_index c.self.inside.words.items c.in_ok-w.w) (full_word c.self.inside.count c.in_ok-w.w) (bit_of c.self.inside.lacks.items c.in_ok-w.w) (c.self.invariant.lacks_marks c.in_ok-w.w)
    (ap (λ xs. bit_of xs c.in_ok-w.w) (sym c.deref.ensures.value) ∙ c.in_ok-w.ensures.1) in
    let last : c.gaps-2.result ≡ gaps_of c.self.inside.words.items c.self.inside.count c.in_ok-w.w =
    c.gaps-2.ensures ∙ ap (λ (v : ℕ). bit_xor v (full_word c.self.inside.count c.in_ok-w.w))
    (c.index-2.ensures ∙ get_or_default c.self.inside.words.items c.in_ok-w.w c.index-2.result.now 0 (gap_within c.self.inside.count c.self.inside.words.items c.in_ok-w.w c.self.invariant.size some)) in
    let nonzero : c.gaps-2.result ≡ 0 → ⊥ = λ zero. some (same_words (slice_index c.self.inside.words.items c.in_ok-w.w) (full_word c.self.inside.count c.in_ok-w.w) (sym last ∙ zero)) in
    (last, omega (arith, nonzero))

pub lowest-requires : goal.lowest-requires
lowest-requires c = (gap_at c).1

pub returns : goal.returns
returns c =
    let f : ℕ → ℕ = gaps_of c.self.inside.words.items c.self.inside.count in
    let at : c.gaps.result ≡ f (c.args.from / 64) =
    c.gaps.ensures ∙ ap (λ (v : ℕ). bit_xor v (full_word c.self.inside.count (c.args.from / 64)))
    (c.index.ensures ∙ get_or_default c.self.inside.words.items (c.args.from / 64) c.index.result.now 0 (omega (arith, c.self.invariant.size, c.if-from-self.false))) in
    let last : c.gaps-2.result ≡ f c.in_ok-w.w = (gap_at (goal.at.returns c).After-gaps-2).0 in
    gap_found c.self.inside.count c.self.inside.words.items c.args.self.now c.args.from (64 * c.in_ok-w.w + c.lowest.result) c.self.view_is c.self.invariant.inside
    (omega (arith, c.in_ok-w.ensures.0))
    (found f c.in_ok-w.w c.lowest.result c.gaps-2.result last c.lowest.ensures.range (ap (λ (b : ℕ). b == 1) c.lowest.ensures.here))
    (searched f c.args.from c.in_ok-w.w c.lowest.result c.gaps.result c.gaps-2.result at last (omega (arith, c.lowest.ensures.range)) c.in_default.ensures.first
    (λ u low high. no_gap (slice_index c.self.inside.words.items u) (full_word c.self.inside.count u)
    (unmarked (slice_index c.self.inside.words.items u) (full_word c.self.inside.count u) (bit_of c.self.inside.lacks.items u) (c.self.invariant.lacks_marks u)
    (ap (λ xs. bit_of xs u) (sym c.deref.ensures.value) ∙ c.in_ok-w.ensures.2 u low high)))
    (λ j less. ap (λ (b : ℕ). b == 1) (c.lowest.ensures.below j less)))
