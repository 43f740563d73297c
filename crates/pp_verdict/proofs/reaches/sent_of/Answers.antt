use Rattle.std.proofs.Common.{◌≡◌, ◌+◌, ⊎_elim, Some, sym, subst, ℕ, List, arith, get_or}
use Rattle.std.specs.Prelude.{option_to_list, MatchOption}
use Rattle.std.specs.List.{Contains}
use Rattle.std.proofs.lemmas.Bool.{cases_lt}
use Rattle.std.proofs.lemmas.List.{get_or_default}
use Rattle.std.proofs.lemmas.List.Elements.{Contains-append_left}
use Rattle.pp_recorded.specs.declared.entry.Entry.{Entry}
use Rattle.pp_recorded.specs.Entries.{record_of}
use Rattle.pp_verdict.specs.Chunks.{chunk_of}
use Rattle.pp_verdict.specs.Reaches.{IsSentAs}
use Rattle.pp_verdict.specs.declared.reaches.SentTo.{SentTo}
use Rattle.pp_verdict.proofs.Reaching.{sent_added}
use Rattle.pp_verdict.proofs.Walks.{one_at}
use Rattle.pp_verdict.proofs.reaches.sent_of.Goals as goal

pub loop-place-preserved : goal.loop-place-preserved
loop-place-preserved c =
    let d = c.args.descriptor.now in
    let xs = c.args.entries.now in
    let place = c.loop-place.place in
    λ k x chunk number lt is has to. subst (λ (sent : List SentTo). (s : SentTo) × Contains sent s × IsSentAs chunk (k + 1) s) (sym c.in_ok-add_sent.ensures) (⊎_elim
    (λ less.
    let s = c.loop-place.invariant k x chunk number less is has to in
    (s.0, Contains-append_left c.loop-place.sent.items (option_to_list c.sent_by.result) s.0 s.1, s.2))
    (λ ge.
    let same : k ≡ c.loop-place.place = omega arith in
    let at = subst (λ (n : ℕ). x ≡ get_or c.args.entries.now n x) same is in
    let element = one_at xs place x _ c.loop-place-test.true at (get_or_default xs place _ _ c.loop-place-test.true) in
    sent_added c.loop-place.sent.items c.sent_by.result chunk (k + 1)
    (subst (λ (n : ℕ). MatchOption c.sent_by.result ⊥ (λ s. IsSentAs chunk (n + 1) s)) (sym same)
    (c.sent_by.ensures chunk number (subst (λ (y : Entry). chunk_of d (record_of y) ≡ Some chunk) element has) to)))
    (cases_lt k c.loop-place.place))

pub returns : goal.returns
returns c = λ k x chunk number lt is. c.loop-place.invariant k x chunk number (let ge = c.loop-place-test.false in omega (arith, lt, ge)) is
