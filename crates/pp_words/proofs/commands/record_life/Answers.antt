use Rattle.std.proofs.Common.{◌^◌, [], ◌∷◌, decimal, refl, arith}
use Rattle.std.proofs.lemmas.Result.{err_from_is_err_and}
use Rattle.pp_words.specs.CommandLine.{ANumber}
use Rattle.pp_words.specs.Views.{texts, usage_of}
use Rattle.pp_words.proofs.WordSteps.{step}
use Rattle.pp_words.proofs.commands.record_life.Goals as goal

pub returns-in_err-peer-clause-err : goal.returns-in_err-peer-clause-err
returns-in_err-peer-clause-err c =
    let p = err_from_is_err_and c.from_residual.result c.from_residual.ensures.1 in
    rw (p.1, p.2) (c.in_err-peer.ensures.err (ANumber 1 (2 ^ 32) ∷ []) 0)

pub returns-in_err-life-clause-err : goal.returns-in_err-life-clause-err
returns-in_err-life-clause-err c =
    let p = err_from_is_err_and c.from_residual-in_err-life.result c.from_residual-in_err-life.ensures.1 in
    rw (p.1, p.2) (step (ANumber 0 16) (ANumber 1 (2 ^ 32) ∷ []) 0 1 (texts c.args.words.now) (decimal c.in_ok-peer.peer) (usage_of c.in_err-life.field-0.0)
    c.in_ok-peer.ensures.ok.0 (c.in_ok-peer.peer, refl, omega arith, c.in_ok-peer.ensures.ok.1)
    (c.in_err-life.ensures.err [] 0))
