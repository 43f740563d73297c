use Rattle.std.proofs.Common.{◌-◌, ◌≡◌, ◌/◌, ◌%◌, ◌^◌, ◌<◌, length, false, sym, ap, ◌∙◌, arith, slice_index, slice_index_or, subst}
use Rattle.std.proofs.Math.Nat.{div-le_self}
use Rattle.std.proofs.lemmas.List.{get_or_default}
use Rattle.pp_tree.proofs.Packing.{bit_in, count_is, run_full, low_ones, ones_range, all_ones}
use Rattle.pp_tree.proofs.bits.Bits.full_words.Goals as goal

pub index-summary-requires : goal.index-summary-requires
index-summary-requires c =
    omega (arith, c.self.invariant.0, c.self.invariant.1, ap (λ xs. length xs) c.self.view_is, count_is c.self.inside.count c.self.inside.words.items)

pub returns-then-summary-clause-most : goal.returns-then-summary-clause-most
returns-then-summary-clause-most c = omega (arith, c.self.invariant.3, count_is c.self.inside.count c.self.inside.words.items, ap (λ xs. length xs) c.self.view_is)

pub returns-then-summary-clause-full : goal.returns-then-summary-clause-full
returns-then-summary-clause-full c = λ i low high inside.
    let size : c.self.inside.count ≡ length c.args.self.now = sym (count_is c.self.inside.count c.self.inside.words.items) ∙ ap (λ xs. length xs) c.self.view_is in
    let at : c.index-summary.result.now ≡ slice_index c.self.inside.summary.items (c.args.w / 64) =
    c.index-summary.ensures ∙ get_or_default c.self.inside.summary.items (c.args.w / 64) c.index-summary.result.now 0 (omega (arith, c.self.invariant.0, c.self.invariant.1, size)) in
    ap (λ xs. slice_index_or xs i false) (sym c.self.view_is)
    ∙ bit_in c.self.inside.count c.self.inside.words.items i (omega (arith, size, inside))
    ∙ run_full c.self.inside.words.items c.self.inside.summary.items c.index-summary.result.now c.args.w (64 - c.args.w % 64) i c.self.invariant.2 at (omega arith)
    (λ j lt. all_ones c.index-summary.result.now (c.args.w % 64) j c.if-summary.true lt) low high

pub returns-clause-range : goal.returns-clause-range
returns-clause-range c = omega (arith, c.trailing_ones.ensures, ones_range (c.index-summary.result.now / 2 ^ (c.args.w % 64)))

pub returns-clause-most : goal.returns-clause-most
returns-clause-most c = omega (arith, c.self.invariant.3, count_is c.self.inside.count c.self.inside.words.items, ap (λ xs. length xs) c.self.view_is)

pub returns-clause-full : goal.returns-clause-full
returns-clause-full c = λ i low high inside.
    let size : c.self.inside.count ≡ length c.args.self.now = sym (count_is c.self.inside.count c.self.inside.words.items) ∙ ap (λ xs. length xs) c.self.view_is in
    let at : c.index-summary.result.now ≡ slice_index c.self.inside.summary.items (c.args.w / 64) =
    c.index-summary.ensures ∙ get_or_default c.self.inside.summary.items (c.args.w / 64) c.index-summary.result.now 0 (omega (arith, c.self.invariant.0, c.self.invariant.1, size)) in
    ap (λ xs. slice_index_or xs i false) (sym c.self.view_is)
    ∙ bit_in c.self.inside.count c.self.inside.words.items i (omega (arith, size, inside))
    ∙ run_full c.self.inside.words.items c.self.inside.summary.items c.index-summary.result.now c.args.w c.trailing_ones.result i c.self.invariant.2 at (omega arith)
    (λ j lt. low_ones (c.index-summary.result.now / 2 ^ (c.args.w % 64)) (omega (arith, div-le_self c.index-summary.result.now (2 ^ (c.args.w % 64)))) j (subst (λ n. j < n) c.trailing_ones.ensures lt)) low high
