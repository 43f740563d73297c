use Rattle.std.proofs.Common.{ℕ, ◌+◌, ◌*◌, refl, sym, ◌∙◌, arith}
use Rattle.pp_tree.proofs.Marking.{passed, found, common_of, common_at}
use Rattle.pp_tree.proofs.words.next_common.Goals as goal

pub returns-in-Some : goal.returns-in-Some
returns-in-Some c =
    let f : ℕ → ℕ = common_of c.args.words.now c.args.other.now c.args.third.now in (
      omega (arith, c.loop-w.invariant.1, c.in-Some.ensures.first.0),
      sym (common_at c.args.words.now c.args.other.now c.args.third.now (64 * c.loop-w.w + c.in-Some.i))
          ∙ found f c.loop-w.w c.in-Some.i (f c.loop-w.w) refl c.in-Some.ensures.range c.in-Some.ensures.first.1,
      (λ k low high. sym (common_at c.args.words.now c.args.other.now c.args.third.now k)
          ∙ passed f c.args.from c.loop-w.w c.loop-w.place c.in-Some.i (f c.loop-w.w) refl (omega (arith, c.in-Some.ensures.range))
          (λ j least most. common_at c.args.words.now c.args.other.now c.args.third.now j ∙ c.loop-w.invariant.2 j least most)
          c.in-Some.ensures.first.2 k low high),
    )

pub loop-w-preserved : goal.loop-w-preserved
loop-w-preserved c =
    let f : ℕ → ℕ = common_of c.args.words.now c.args.other.now c.args.third.now in (
      omega arith,
      omega (arith, c.loop-w.invariant.0, c.loop-w.invariant.1),
      (λ k low high. sym (common_at c.args.words.now c.args.other.now c.args.third.now k)
          ∙ passed f c.args.from c.loop-w.w c.loop-w.place 64 (f c.loop-w.w) refl (omega arith)
          (λ j least most. common_at c.args.words.now c.args.other.now c.args.third.now j ∙ c.loop-w.invariant.2 j least most)
          (λ j least _. c.in_default.ensures.first j least) k low (omega arith)),
    )
