use Rattle.std.proofs.lemmas.Result.{err_from_is_err_and}
use Rattle.pp_replay.proofs.StepWords.{forge_in_is}
use Rattle.pp_replay.proofs.steps.forge_in.Goals as goal

pub returns-in_err-sender : goal.returns-in_err-sender
returns-in_err-sender c =
    let p = err_from_is_err_and c.from_residual-in_err-sender.result c.from_residual-in_err-sender.ensures.1 in
    rw (p.1, p.2, forge_in_is, ← c.in_ok-peer.ensures, ← c.in_ok-peer-2.ensures.number, ← c.in_err-sender.ensures.number)

pub returns-in_err-peer-3 : goal.returns-in_err-peer-3
returns-in_err-peer-3 c =
    let p = err_from_is_err_and c.from_residual-in_err-peer-3.result c.from_residual-in_err-peer-3.ensures.1 in
    rw (p.1, p.2, forge_in_is, ← c.in_ok-peer.ensures, ← c.in_ok-peer-2.ensures.number, ← c.in_ok-sender.ensures.number, ← c.in_err-peer-3.ensures)

pub returns-in_err-sender-2 : goal.returns-in_err-sender-2
returns-in_err-sender-2 c =
    let p = err_from_is_err_and c.from_residual-in_err-sender-2.result c.from_residual-in_err-sender-2.ensures.1 in
    rw (p.1, p.2, forge_in_is, ← c.in_ok-peer.ensures, ← c.in_ok-peer-2.ensures.number, ← c.in_ok-sender.ensures.number, ← c.in_ok-peer-3.ensures, ← c.in_err-sender-2.ensures)

pub returns-in-Ok : goal.returns-in-Ok
returns-in-Ok c = rw (forge_in_is, ← c.in_ok-peer.ensures, ← c.in_ok-peer-2.ensures.number, ← c.in_ok-sender.ensures.number, ← c.in_ok-peer-3.ensures, ← c.in_ok-sender-2.ensures, ← c.in-Ok.ensures)

pub returns-in-Err : goal.returns-in-Err
returns-in-Err c = rw (forge_in_is, ← c.in_ok-peer.ensures, ← c.in_ok-peer-2.ensures.number, ← c.in_ok-sender.ensures.number, ← c.in_ok-peer-3.ensures, ← c.in_ok-sender-2.ensures, ← c.in-Err.ensures)
