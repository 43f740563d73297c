use Rattle.std.proofs.Common.{◌≡◌, ⊎_elim, subst, ℕ, arith, get_or}
use Rattle.std.proofs.lemmas.Bool.{cases_lt}
use Rattle.std.proofs.lemmas.List.{get_or_default}
use Rattle.pp_verdict.specs.Shakes.{Opens}
use Rattle.pp_verdict.specs.declared.shakes.Shake.{Shake}
use Rattle.pp_verdict.proofs.Walks.{one_at}
use Rattle.pp_verdict.proofs.lives.lives_among.Goals as goal

pub loop-first-preserved : goal.loop-first-preserved
loop-first-preserved c =
    let xs = c.args.shakes.now in
    let i = c.loop-first.first-index in
    λ life j a b lt is has opens. ⊎_elim
    (λ less. c.in_ok-add_lives.ensures.kept life (c.loop-first.invariant life j a b less is has opens))
    (λ ge.
    let same : j ≡ c.loop-first.first-index = omega arith in
    let at = subst (λ (n : ℕ). a ≡ get_or c.args.shakes.now n a) same is in
    let element = one_at xs i a _ c.loop-first-test.true at (get_or_default xs i _ _ c.loop-first-test.true) in
    c.in_ok-add_lives.ensures.here life b has (subst (λ (x : Shake). Opens life x b) element opens))
    (cases_lt j c.loop-first.first-index)
