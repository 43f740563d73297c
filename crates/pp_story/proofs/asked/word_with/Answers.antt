use Rattle.std.proofs.Common.{sym, ◌∙◌, ap, nat_le, Bool, cond, ◌&&◌, ◌==◌}
use Rattle.std.specs.Int.{bit_at}
use Rattle.pp_story.proofs.Written.{bits_set, bits_cleared}
use Rattle.pp_story.proofs.asked.word_with.Goals as goal

pub returns-then-value : goal.returns-then-value
returns-then-value c = λ k lt.
    bits_set c.args.word c.mask-mask.result c.args.first c.args.last k c.requires.order c.mask-mask.ensures
    ∙ ap (λ (v : Bool). cond (nat_le c.args.first k && nat_le k c.args.last) v (bit_at c.args.word k == 1)) (sym c.if-value.true)

pub returns-else-value : goal.returns-else-value
returns-else-value c = λ k lt.
    bits_cleared c.args.word c.mask-mask.result c.args.first c.args.last k c.requires.order c.requires.inside c.mask-mask.ensures lt
    ∙ ap (λ (v : Bool). cond (nat_le c.args.first k && nat_le k c.args.last) v (bit_at c.args.word k == 1)) (sym c.if-value.false)
