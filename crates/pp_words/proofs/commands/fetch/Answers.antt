use Rattle.std.proofs.Common.{◌^◌, [], ◌∷◌, decimal, refl}
use Rattle.std.proofs.lemmas.Result.{err_from_is_err_and}
use Rattle.pp_terms.specs.command.Order.{order_text}
use Rattle.pp_words.specs.CommandLine.{AStore, ANumber, ATarget, AnAddress, AnOrder}
use Rattle.pp_outside.specs.Outside.{address_of}
use Rattle.pp_targets.specs.Names.{target_of}
use Rattle.pp_words.specs.Views.{texts, order_of, usage_of}
use Rattle.pp_words.proofs.WordSteps.{step}
use Rattle.pp_words.proofs.commands.fetch.Goals as goal

pub returns-in_err-store-clause-err : goal.returns-in_err-store-clause-err
returns-in_err-store-clause-err c =
    let p = err_from_is_err_and c.from_residual.result c.from_residual.ensures.1 in
    rw (p.1, p.2) (c.in_err-store.ensures.err (ATarget ∷ AnAddress ∷ ANumber 1 (2 ^ 32) ∷ AnOrder ∷ AnAddress ∷ []) 15)

pub returns-in_err-target-clause-err : goal.returns-in_err-target-clause-err
returns-in_err-target-clause-err c =
    let p = err_from_is_err_and c.from_residual-in_err-target.result c.from_residual-in_err-target.ensures.1 in
    rw (p.1, p.2) (step AStore (ATarget ∷ AnAddress ∷ ANumber 1 (2 ^ 32) ∷ AnOrder ∷ AnAddress ∷ []) 15 1 (texts c.args.words.now) c.in_ok-store.store.now (usage_of c.in_err-target.field-0.0)
    c.in_ok-store.ensures.ok.0 c.in_ok-store.ensures.ok.1
    (c.in_err-target.ensures.err (AnAddress ∷ ANumber 1 (2 ^ 32) ∷ AnOrder ∷ AnAddress ∷ []) 15))

pub returns-in_err-listen-clause-err : goal.returns-in_err-listen-clause-err
returns-in_err-listen-clause-err c =
    let p = err_from_is_err_and c.from_residual-in_err-listen.result c.from_residual-in_err-listen.ensures.1 in
    rw (p.1, p.2) (step AStore (ATarget ∷ AnAddress ∷ ANumber 1 (2 ^ 32) ∷ AnOrder ∷ AnAddress ∷ []) 15 1 (texts c.args.words.now) c.in_ok-store.store.now (usage_of c.in_err-listen.field-0.0)
    c.in_ok-store.ensures.ok.0 c.in_ok-store.ensures.ok.1
    (step ATarget (AnAddress ∷ ANumber 1 (2 ^ 32) ∷ AnOrder ∷ AnAddress ∷ []) 15 2 (texts c.args.words.now) c.in_ok-target.ensures.ok.0 (usage_of c.in_err-listen.field-0.0)
    c.in_ok-target.ensures.ok.1 (target_of c.in_ok-target.target, c.in_ok-target.ensures.ok.2)
    (c.in_err-listen.ensures.err (ANumber 1 (2 ^ 32) ∷ AnOrder ∷ AnAddress ∷ []) 15)))

pub returns-in_err-turns-clause-err : goal.returns-in_err-turns-clause-err
returns-in_err-turns-clause-err c =
    let p = err_from_is_err_and c.from_residual-in_err-turns.result c.from_residual-in_err-turns.ensures.1 in
    rw (p.1, p.2) (step AStore (ATarget ∷ AnAddress ∷ ANumber 1 (2 ^ 32) ∷ AnOrder ∷ AnAddress ∷ []) 15 1 (texts c.args.words.now) c.in_ok-store.store.now (usage_of c.in_err-turns.field-0.0)
    c.in_ok-store.ensures.ok.0 c.in_ok-store.ensures.ok.1
    (step ATarget (AnAddress ∷ ANumber 1 (2 ^ 32) ∷ AnOrder ∷ AnAddress ∷ []) 15 2 (texts c.args.words.now) c.in_ok-target.ensures.ok.0 (usage_of c.in_err-turns.field-0.0)
    c.in_ok-target.ensures.ok.1 (target_of c.in_ok-target.target, c.in_ok-target.ensures.ok.2)
    (step AnAddress (ANumber 1 (2 ^ 32) ∷ AnOrder ∷ AnAddress ∷ []) 15 3 (texts c.args.words.now) c.in_ok-listen.ensures.ok.0 (usage_of c.in_err-turns.field-0.0)
    c.in_ok-listen.ensures.ok.1 (address_of c.in_ok-listen.listen, c.in_ok-listen.ensures.ok.2)
    (c.in_err-turns.ensures.err (AnOrder ∷ AnAddress ∷ []) 15))))

pub returns-in_err-order-clause-err : goal.returns-in_err-order-clause-err
returns-in_err-order-clause-err c =
    let p = err_from_is_err_and c.from_residual-in_err-order.result c.from_residual-in_err-order.ensures.1 in
    rw (p.1, p.2) (step AStore (ATarget ∷ AnAddress ∷ ANumber 1 (2 ^ 32) ∷ AnOrder ∷ AnAddress ∷ []) 15 1 (texts c.args.words.now) c.in_ok-store.store.now (usage_of c.in_err-order.field-0.0)
    c.in_ok-store.ensures.ok.0 c.in_ok-store.ensures.ok.1
    (step ATarget (AnAddress ∷ ANumber 1 (2 ^ 32) ∷ AnOrder ∷ AnAddress ∷ []) 15 2 (texts c.args.words.now) c.in_ok-target.ensures.ok.0 (usage_of c.in_err-order.field-0.0)
    c.in_ok-target.ensures.ok.1 (target_of c.in_ok-target.target, c.in_ok-target.ensures.ok.2)
    (step AnAddress (ANumber 1 (2 ^ 32) ∷ AnOrder ∷ AnAddress ∷ []) 15 3 (texts c.args.words.now) c.in_ok-listen.ensures.ok.0 (usage_of c.in_err-order.field-0.0)
    c.in_ok-listen.ensures.ok.1 (address_of c.in_ok-listen.listen, c.in_ok-listen.ensures.ok.2)
    (step (ANumber 1 (2 ^ 32)) (AnOrder ∷ AnAddress ∷ []) 15 4 (texts c.args.words.now) (decimal c.in_ok-turns.turns) (usage_of c.in_err-order.field-0.0)
    c.in_ok-turns.ensures.ok.0 (c.in_ok-turns.turns, refl, c.in_ok-turns.ensures.ok.1, c.in_ok-turns.ensures.ok.2)
    (c.in_err-order.ensures.err (AnAddress ∷ []) 15)))))

pub returns-in_err-peers-clause-err : goal.returns-in_err-peers-clause-err
returns-in_err-peers-clause-err c =
    let p = err_from_is_err_and c.from_residual-in_err-peers.result c.from_residual-in_err-peers.ensures.1 in
    rw (p.1, p.2) (step AStore (ATarget ∷ AnAddress ∷ ANumber 1 (2 ^ 32) ∷ AnOrder ∷ AnAddress ∷ []) 15 1 (texts c.args.words.now) c.in_ok-store.store.now (usage_of c.in_err-peers.field-0.0)
    c.in_ok-store.ensures.ok.0 c.in_ok-store.ensures.ok.1
    (step ATarget (AnAddress ∷ ANumber 1 (2 ^ 32) ∷ AnOrder ∷ AnAddress ∷ []) 15 2 (texts c.args.words.now) c.in_ok-target.ensures.ok.0 (usage_of c.in_err-peers.field-0.0)
    c.in_ok-target.ensures.ok.1 (target_of c.in_ok-target.target, c.in_ok-target.ensures.ok.2)
    (step AnAddress (ANumber 1 (2 ^ 32) ∷ AnOrder ∷ AnAddress ∷ []) 15 3 (texts c.args.words.now) c.in_ok-listen.ensures.ok.0 (usage_of c.in_err-peers.field-0.0)
    c.in_ok-listen.ensures.ok.1 (address_of c.in_ok-listen.listen, c.in_ok-listen.ensures.ok.2)
    (step (ANumber 1 (2 ^ 32)) (AnOrder ∷ AnAddress ∷ []) 15 4 (texts c.args.words.now) (decimal c.in_ok-turns.turns) (usage_of c.in_err-peers.field-0.0)
    c.in_ok-turns.ensures.ok.0 (c.in_ok-turns.turns, refl, c.in_ok-turns.ensures.ok.1, c.in_ok-turns.ensures.ok.2)
    (step AnOrder (AnAddress ∷ []) 15 5 (texts c.args.words.now) (order_text (order_of c.in_ok-order.order)) (usage_of c.in_err-peers.field-0.0)
    c.in_ok-order.ensures.ok (order_of c.in_ok-order.order, refl)
    c.in_err-peers.ensures.err)))))
