use Rattle.std.proofs.Common.{arith, rules}
use Rattle.pp_words.proofs.Numbers.{not_plain, not_digits, too_large, written}
use Rattle.pp_words.proofs.number.number.Goals as goal

pub returns-then-not-may_be_number : goal.returns-then-not-may_be_number
returns-then-not-may_be_number c = λ n. not_plain c.args.text.now c.args.most n (λ may. let yes = c.may_be_number.ensures.1 may in cc) (omega arith)

pub returns-in_err-value : goal.returns-in_err-value
returns-in_err-value c = rw c.from_residual.ensures (λ n. not_digits c.args.text.now c.args.most n c.in_err-value.ensures (omega arith))

pub returns-then-value-from : goal.returns-then-value-from
returns-then-value-from c = λ n. too_large c.args.text.now c.args.most n c.in_ok-value.value (search rules) (omega arith) (omega arith)

pub returns : goal.returns
returns c = (omega arith, written c.args.text.now c.in_ok-value.value (search rules) (search rules) (search rules) (omega arith))
