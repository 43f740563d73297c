use Rattle.std.proofs.Common.{[], ◌∷◌}
use Rattle.std.proofs.lemmas.Result.{err_from_is_err_and}
use Rattle.pp_words.specs.CommandLine.{AStore, ATarget}
use Rattle.pp_words.specs.Views.{texts, usage_of}
use Rattle.pp_words.proofs.WordSteps.{step}
use Rattle.pp_words.proofs.commands.export.Goals as goal

pub returns-in_err-store-clause-err : goal.returns-in_err-store-clause-err
returns-in_err-store-clause-err c =
    let p = err_from_is_err_and c.from_residual.result c.from_residual.ensures.1 in
    rw (p.1, p.2) (c.in_err-store.ensures.err (ATarget ∷ []) 0)

pub returns-in_err-target-clause-err : goal.returns-in_err-target-clause-err
returns-in_err-target-clause-err c =
    let p = err_from_is_err_and c.from_residual-in_err-target.result c.from_residual-in_err-target.ensures.1 in
    rw (p.1, p.2) (step AStore (ATarget ∷ []) 0 1 (texts c.args.words.now) c.in_ok-store.store.now (usage_of c.in_err-target.field-0.0)
    c.in_ok-store.ensures.ok.0 c.in_ok-store.ensures.ok.1
    (c.in_err-target.ensures.err [] 0))
