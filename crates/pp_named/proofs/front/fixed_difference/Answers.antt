use Rattle.std.proofs.Common.{ℕ, get_or, below_more, ap, sym, ◌∙◌, arith}
use Rattle.pp_tree.proofs.Languages.{false_true}
use Rattle.pp_named.proofs.front.fixed_difference.Goals as goal
use Rattle.pp_named.proofs.front.fixed_difference.Goals.{else-is_fixed-via-then-is_fixed+else-found-want, else-is_fixed-via-else-is_fixed}

pub returns-then-found-want : goal.returns-then-found-want
returns-then-found-want c = record {
  within = c.loop-at-test.true;
  fixed = c.is_fixed.ensures.0 c.if-is_fixed.true;
  found_is = ap (λ (i : ℕ). get_or c.args.bytes.now i 0) c.from.ensures;
  want_is = ap (λ (i : ℕ). get_or c.args.wanted.now i 0) c.from-in-loop-at.ensures;
  differ = c.if-found-want.true;
  first = c.loop-at.invariant;
}

pub loop-at-preserved : goal.loop-at-preserved
loop-at-preserved c = below_more _ _ c.loop-at.invariant (λ fixed. elim c.else-is_fixed.branch [
  | else-is_fixed-via-then-is_fixed+else-found-want w ↦
      sym (ap (λ (i : ℕ). get_or c.args.bytes.now i 0) c.from.ensures) ∙ w.if-found-want.false
      ∙ ap (λ (i : ℕ). get_or c.args.wanted.now i 0) c.from-in-loop-at.ensures
  | else-is_fixed-via-else-is_fixed w ↦
      absurd (false_true c.is_fixed.result w.if-is_fixed.false (c.is_fixed.ensures.1 fixed))
])

pub returns : goal.returns
returns c = λ k lt fixed. c.loop-at.invariant k (omega (arith, lt, c.loop-at-test.false)) fixed
