use Rattle.std.proofs.Common.{sym, ◌∙◌, arith}
use Rattle.std.proofs.lemmas.Result.{err_from_is_err_and}
use Rattle.pp_replay.proofs.StepLines.{too_long, begins, is_schedule}
use Rattle.pp_replay.proofs.reading.read_schedule.Goals as goal

pub returns-then-text-gt-MOST_TEXT-clause-read : goal.returns-then-text-gt-MOST_TEXT-clause-read
returns-then-text-gt-MOST_TEXT-clause-read c = rw (too_long c.args.text.now c.if-text-gt-MOST_TEXT.true, c.fault.ensures)

pub returns-in_err-text-clause-read : goal.returns-in_err-text-clause-read
returns-in_err-text-clause-read c =
    let p = err_from_is_err_and c.from_residual.result c.from_residual.ensures.1 in
    rw (p.1, p.2, begins c.args.text.now (omega arith), c.in_err-text.ensures)

pub returns-in_err-content-clause-read : goal.returns-in_err-content-clause-read
returns-in_err-content-clause-read c =
    let p = err_from_is_err_and c.from_residual-in_err-content.result c.from_residual-in_err-content.ensures.1 in
    rw (p.1, p.2, begins c.args.text.now (omega arith), c.in_ok-text.ensures, c.in_err-content.ensures)

pub returns-clause-read : goal.returns-clause-read
returns-clause-read c = c.read_rest.ensures ∙ sym (begins c.args.text.now (omega arith) ∙ c.in_ok-text.ensures ∙ c.in_ok-content.ensures)

pub returns-clause-schedule : goal.returns-clause-schedule
returns-clause-schedule c =
    is_schedule c.args.text.now c.read_rest.result (c.read_rest.ensures ∙ sym (begins c.args.text.now (omega arith) ∙ c.in_ok-text.ensures ∙ c.in_ok-content.ensures))
