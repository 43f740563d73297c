use Rattle.std.proofs.Common.{ℕ, ◌+◌, ◌==◌, ap, sym, ◌∙◌, arith}
use Rattle.pp_tree.proofs.Packing.{shifted}
use Rattle.pp_tree.proofs.Marking.{none_from, none_between, place_in}
use Rattle.pp_tree.proofs.words.lowest_from.Goals as goal

pub returns-then-rest-eq0-clause-first : goal.returns-then-rest-eq0-clause-first
returns-then-rest-eq0-clause-first c = λ k le. ap (λ (b : ℕ). b == 1) (none_from c.args.word c.args.from k c.if-rest-eq0.true le)

pub returns-clause-range : goal.returns-clause-range
returns-clause-range c =
    place_in c.args.word (c.args.from + c.lowest.result) c.ranges.word.fits (sym (shifted c.args.word c.args.from c.lowest.result) ∙ c.lowest.ensures.here)

pub returns-clause-first : goal.returns-clause-first
returns-clause-first c = (
  omega arith,
  ap (λ (b : ℕ). b == 1) (sym (shifted c.args.word c.args.from c.lowest.result) ∙ c.lowest.ensures.here),
  (λ k le lt. ap (λ (b : ℕ). b == 1) (none_between c.args.word c.args.from c.lowest.result k c.lowest.ensures.below le lt)),
)
