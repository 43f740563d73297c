use Rattle.std.proofs.lemmas.Result.{err_from_is_err_and}
use Rattle.pp_replay.proofs.StepWords.{crash_in_is}
use Rattle.pp_replay.proofs.steps.crash_in.Goals as goal

pub returns-in_err-pick : goal.returns-in_err-pick
returns-in_err-pick c =
    let p = err_from_is_err_and c.from_residual-in_err-pick.result c.from_residual-in_err-pick.ensures.1 in
    rw (p.1, p.2, crash_in_is, ← c.in_ok-peer.ensures, ← c.in_ok-peer-2.ensures.number, ← c.in_err-pick.ensures)

pub returns-in_err-peer-3 : goal.returns-in_err-peer-3
returns-in_err-peer-3 c =
    let p = err_from_is_err_and c.from_residual-in_err-peer-3.result c.from_residual-in_err-peer-3.ensures.1 in
    rw (p.1, p.2, crash_in_is, ← c.in_ok-peer.ensures, ← c.in_ok-peer-2.ensures.number, ← c.in_ok-pick.ensures, ← c.in_err-peer-3.ensures)

pub returns : goal.returns
returns c = rw (crash_in_is, ← c.in_ok-peer.ensures, ← c.in_ok-peer-2.ensures.number, ← c.in_ok-pick.ensures, ← c.in_ok-peer-3.ensures)
