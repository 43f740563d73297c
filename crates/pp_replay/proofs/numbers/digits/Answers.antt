use Rattle.std.proofs.Common.{sym, ◌∙◌, arith}
use Rattle.pp_replay.proofs.Digits.{digit_more, no_digit, all_digits, no_digits_yet}
use Rattle.pp_replay.proofs.numbers.digits.Goals as goal

pub loop-byte-init : goal.loop-byte-init
loop-byte-init c = no_digits_yet c.args.word.now

pub loop-byte-preserved : goal.loop-byte-preserved
loop-byte-preserved c =
    digit_more c.args.word.now c.loop-byte.byte-index c.loop-byte.value _ c.loop-byte.invariant c.loop-byte-test.true
    (sym c.is_ascii_digit.ensures.value ∙ c.if-not-is_ascii_digit.false) c.from.ensures

pub returns-then-not-is_ascii_digit : goal.returns-then-not-is_ascii_digit
returns-then-not-is_ascii_digit c =
    no_digit c.args.word.now c.loop-byte.byte-index c.loop-byte.value c.loop-byte.invariant c.loop-byte-test.true
    (sym c.is_ascii_digit.ensures.value ∙ c.if-not-is_ascii_digit.true)

pub returns : goal.returns
returns c = all_digits c.args.word.now c.loop-byte.byte-index c.loop-byte.value c.loop-byte.invariant (omega arith)
