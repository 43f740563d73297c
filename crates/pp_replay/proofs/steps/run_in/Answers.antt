use Rattle.std.proofs.lemmas.Result.{err_from_is_err_and}
use Rattle.pp_replay.proofs.StepWords.{run_in_is}
use Rattle.pp_replay.proofs.steps.run_in.Goals as goal

pub returns-in_err-gain : goal.returns-in_err-gain
returns-in_err-gain c =
    let p = err_from_is_err_and c.from_residual-in_err-gain.result c.from_residual-in_err-gain.ensures.1 in
    rw (p.1, p.2, run_in_is, ← c.in_ok-rounds.ensures, ← c.in_ok-rounds-2.ensures, ← c.in_err-gain.ensures)

pub returns : goal.returns
returns c = rw (run_in_is, ← c.in_ok-rounds.ensures, ← c.in_ok-rounds-2.ensures, ← c.in_ok-gain.ensures)
