use Rattle.std.proofs.Common.{map, subst, sym, List}
use Rattle.std.proofs.lemmas.Result.{IfOk-weaker}
use Rattle.std.specs.List.{Contains}
use Rattle.pp_recorded.specs.Entries.{life_of}
use Rattle.pp_verdict.specs.Findings.{AreAll}
use Rattle.pp_verdict.specs.declared.shakes.Shake.{Shake}
use Rattle.pp_verdict.proofs.Handshakes.{opens_found}
use Rattle.pp_verdict.proofs.lives.lives_of.Goals as goal

pub returns : goal.returns
returns c =
    IfOk-weaker c.lives_among.result _ (λ lives. AreAll c.args.descriptor.now c.args.entries.now (map life_of lives.items))
    (λ lives has. λ n life alive.
    let two = opens_found c.args.descriptor.now c.args.entries.now c.in_ok-shakes.shakes.items life n c.in_ok-shakes.ensures alive in
    has life two.0 two.1
    (subst (λ (xs : List Shake). Contains xs two.0) (sym c.deref.ensures.value) two.2)
    (subst (λ (xs : List Shake). Contains xs two.1) (sym c.deref.ensures.value) two.3)
    two.4)
    c.lives_among.ensures
