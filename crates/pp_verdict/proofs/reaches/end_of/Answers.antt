use Rattle.std.proofs.Common.{◌≡◌, ⊎_elim, sym, ◌∙◌, ap, subst, ℕ, arith, get_or}
use Rattle.std.proofs.lemmas.Bool.{cases_lt}
use Rattle.std.proofs.lemmas.List.{get_or_default}
use Rattle.pp_outside.specs.Outside.{address_of}
use Rattle.pp_verdict.specs.declared.reaches.SentTo.{SentTo}
use Rattle.pp_verdict.proofs.Walks.{one_at}
use Rattle.pp_verdict.proofs.reaches.end_of.Goals as goal

pub loop-one-preserved : goal.loop-one-preserved
loop-one-preserved c = λ k s lt is to by. ⊎_elim
    (λ less. let le = c.loop-one.invariant k s less is to by in omega (arith, le, c.end_with-end.ensures.kept))
    (λ ge.
    let same : k ≡ c.loop-one.one-index = omega arith in
    let at = subst (λ (n : ℕ). s ≡ get_or c.args.sent.now n s) same is in
    let element = one_at c.args.sent.now c.loop-one.one-index s _ c.loop-one-test.true at (get_or_default c.args.sent.now c.loop-one.one-index _ _ c.loop-one-test.true) in
    let le = c.end_with-end.ensures.here (ap (λ (x : SentTo). address_of x.address) (sym element) ∙ to) (ap (λ (x : SentTo). x.channel) (sym element) ∙ by) in
    let ends = ap (λ (x : SentTo). x.end) element in
    omega (arith, le, ends))
    (cases_lt k c.loop-one.one-index)
