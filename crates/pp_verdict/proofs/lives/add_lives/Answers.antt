use Rattle.std.proofs.Common.{◌≡◌, ⊎_elim, subst, ℕ, arith, get_or}
use Rattle.std.proofs.lemmas.Bool.{cases_lt}
use Rattle.std.proofs.lemmas.List.{get_or_default}
use Rattle.pp_verdict.specs.Shakes.{Opens}
use Rattle.pp_verdict.specs.declared.shakes.Shake.{Shake}
use Rattle.pp_verdict.proofs.Walks.{one_at}
use Rattle.pp_verdict.proofs.lives.add_lives.Goals as goal

pub loop-second-preserved : goal.loop-second-preserved
loop-second-preserved c =
    let xs = c.args.shakes.now in
    let i = c.loop-second.second-index in
    record {
      here = λ life j s lt is opens. ⊎_elim
          (λ less. c.in_ok-add_found.ensures.kept life (c.loop-second.invariant.here life j s less is opens))
          (λ ge.
          let same : j ≡ c.loop-second.second-index = omega arith in
          let at = subst (λ (n : ℕ). s ≡ get_or c.args.shakes.now n s) same is in
          let element = one_at xs i s _ c.loop-second-test.true at (get_or_default xs i _ _ c.loop-second-test.true) in
          c.in_ok-add_found.ensures.here life (c.life_opened.ensures life (subst (λ (x : Shake). Opens life c.args.first x) element opens)))
          (cases_lt j c.loop-second.second-index);
      kept = λ l has. c.in_ok-add_found.ensures.kept l (c.loop-second.invariant.kept l has);
    }
