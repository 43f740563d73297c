use Rattle.std.proofs.Common.{sym, ◌∙◌}
use Rattle.pp_words.proofs.Numbers.{digit_more}
use Rattle.pp_words.proofs.number.digits.Goals as goal

pub loop-byte-preserved : goal.loop-byte-preserved
loop-byte-preserved c =
    digit_more c.args.text.now c.loop-byte.byte-index c.loop-byte.value _ c.loop-byte.invariant c.loop-byte-test.true
    (sym c.is_ascii_digit.ensures.value ∙ c.if-not-is_ascii_digit.false) c.from.ensures
