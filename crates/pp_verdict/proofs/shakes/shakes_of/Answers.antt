use Rattle.std.proofs.Common.{◌≡◌, ◌++◌, ⊎_elim, sym, subst, ℕ, List, arith, get_or}
use Rattle.std.specs.Prelude.{option_to_list}
use Rattle.std.proofs.lemmas.Bool.{cases_lt}
use Rattle.std.proofs.lemmas.List.{get_or_default}
use Rattle.pp_recorded.specs.declared.entry.Entry.{Entry}
use Rattle.pp_verdict.specs.Shakes.{HasShake}
use Rattle.pp_verdict.specs.declared.shakes.Shake.{Shake}
use Rattle.pp_verdict.proofs.Handshakes.{shake_kept, shake_added}
use Rattle.pp_verdict.proofs.Walks.{one_at}
use Rattle.pp_verdict.proofs.shakes.shakes_of.Goals as goal

pub loop-place-preserved : goal.loop-place-preserved
loop-place-preserved c =
    let d = c.args.descriptor.now in
    let xs = c.args.entries.now in
    let place = c.loop-place.place in
    λ k x lt is. subst (λ (shakes : List Shake). HasShake d k x shakes) (sym c.in_ok-add_shake.ensures) (⊎_elim
    (λ less. shake_kept d k x c.loop-place.shakes.items (option_to_list c.shake_of.result) (c.loop-place.invariant k x less is))
    (λ ge.
    let same : k ≡ c.loop-place.place = omega arith in
    let at = subst (λ (n : ℕ). x ≡ get_or c.args.entries.now n x) same is in
    let element = one_at xs place x _ c.loop-place-test.true at (get_or_default xs place _ _ c.loop-place-test.true) in
    subst (λ (n : ℕ). HasShake d n x (c.loop-place.shakes.items ++ option_to_list c.shake_of.result)) (sym same) (subst (λ (y : Entry). HasShake d place y (c.loop-place.shakes.items ++ option_to_list c.shake_of.result)) (sym element)
    (shake_added d place _ c.loop-place.shakes.items c.shake_of.result c.shake_of.ensures.greets c.shake_of.ensures.answers)))
    (cases_lt k c.loop-place.place))

pub returns : goal.returns
returns c = λ k x lt is. c.loop-place.invariant k x (let ge = c.loop-place-test.false in omega (arith, lt, ge)) is
