use Rattle.std.proofs.lemmas.Result.{err_from_is_err_and}
use Rattle.pp_replay.proofs.StepWords.{fail_in_is}
use Rattle.pp_replay.proofs.steps.fail_in.Goals as goal

pub returns-in_err-peer-2 : goal.returns-in_err-peer-2
returns-in_err-peer-2 c =
    let p = err_from_is_err_and c.from_residual-in_err-peer-2.result c.from_residual-in_err-peer-2.ensures.1 in
    rw (p.1, p.2, fail_in_is, ← c.in_ok-peer.ensures, ← c.in_ok-call.ensures, ← c.in_err-peer-2.ensures.number)

pub returns-in_err-peer-3 : goal.returns-in_err-peer-3
returns-in_err-peer-3 c =
    let p = err_from_is_err_and c.from_residual-in_err-peer-3.result c.from_residual-in_err-peer-3.ensures.1 in
    rw (p.1, p.2, fail_in_is, ← c.in_ok-peer.ensures, ← c.in_ok-call.ensures, ← c.in_ok-peer-2.ensures.number, ← c.in_err-peer-3.ensures)

pub returns : goal.returns
returns c = rw (fail_in_is, ← c.in_ok-peer.ensures, ← c.in_ok-call.ensures, ← c.in_ok-peer-2.ensures.number, ← c.in_ok-peer-3.ensures)
