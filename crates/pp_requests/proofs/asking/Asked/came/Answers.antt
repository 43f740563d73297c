use Rattle.std.proofs.Common.{true, false, Some, None, List, length, map, refl, sym, ◌∙◌, ap, subst}
use Rattle.std.specs.Prelude.{is_some}
use Rattle.std.proofs.lemmas.List.{length-map}
use Rattle.pp_requests.specs.declared.asking.Asking.{Asking}
use Rattle.pp_requests.specs.Moments.{entry_of, IsRisingFrom, timely, overtaken_by}
use Rattle.pp_requests.proofs.Chunks.{asked_some, changed_moment, answers, answered_taken, mapped_entry, mapped_rising, refilled, timely_some}
use Rattle.pp_requests.proofs.asking.Asked.came.Goals as goal

-- ---- it wasn't asked for

pub returns-in_default-clause-was : goal.returns-in_default-clause-was
returns-in_default-clause-was c =
    sym (asked_some c.args.self.now c.args.i ∙ ap (λ o. is_some o) (sym c.take_out.ensures.entry ∙ c.in_default.is))

pub returns-in_default-clause-answers : goal.returns-in_default-clause-answers
returns-in_default-clause-answers c =
    answers c.args.now c.args.i c.args.self.now c.take_out.new.self None
    (sym (ap (timely c.args.now) (sym c.take_out.ensures.entry ∙ c.in_default.is))) c.take_out.ensures.taken c.take_out.new.self (λ j. refl)

pub returns-in_default-clause-taken : goal.returns-in_default-clause-taken
returns-in_default-clause-taken c = changed_moment c.args.i None c.args.self.now _ c.take_out.ensures.taken

-- ---- in time

pub invariant_of-self : goal.invariant_of-self
invariant_of-self c =
    subst (λ (xs : List Asking). IsRisingFrom 0 xs)
    (sym (refilled _ _ (ap length c.overtake.ensures ∙ length-map c.deref_mut.result.now (overtaken_by c.in-Some.answered) ∙ ap length c.deref_mut.ensures.value)
    ∙ c.overtake.ensures ∙ ap (λ (xs : List Asking). map (overtaken_by c.in-Some.answered) xs) c.deref_mut.ensures.value))
    (mapped_rising c.in-Some.answered 0 c.self.inside.entries.items c.self.invariant)

pub returns-then-is_timely-clause-was : goal.returns-then-is_timely-clause-was
returns-then-is_timely-clause-was c =
    sym (asked_some c.args.self.now c.args.i ∙ ap (λ o. is_some o) (sym c.take_out.ensures.entry ∙ c.in-Some.is))

pub returns-then-is_timely-clause-answers : goal.returns-then-is_timely-clause-answers
returns-then-is_timely-clause-answers c =
    answers c.args.now c.args.i c.args.self.now c.take_out.new.self (Some c.in-Some.answered)
    (sym (ap (timely c.args.now) (sym c.take_out.ensures.entry ∙ c.in-Some.is)
    ∙ timely_some c.args.now c.in-Some.answered true (sym c.is_timely.ensures ∙ c.if-is_timely.true)))
    c.take_out.ensures.taken _
    (λ j. ap (λ (xs : List Asking). entry_of xs j)
    (refilled _ _ (ap length c.overtake.ensures ∙ length-map c.deref_mut.result.now (overtaken_by c.in-Some.answered) ∙ ap length c.deref_mut.ensures.value)
    ∙ c.overtake.ensures ∙ ap (λ (xs : List Asking). map (overtaken_by c.in-Some.answered) xs) (c.deref_mut.ensures.value ∙ c.self.view_is))
    ∙ mapped_entry c.in-Some.answered c.take_out.new.self j)

pub returns-then-is_timely-clause-taken : goal.returns-then-is_timely-clause-taken
returns-then-is_timely-clause-taken c =
    answered_taken c.args.now c.args.i c.args.self.now _ (returns-then-is_timely-clause-answers c)

-- ---- too late, or taken for lost

pub returns-else-is_timely-clause-was : goal.returns-else-is_timely-clause-was
returns-else-is_timely-clause-was c =
    sym (asked_some c.args.self.now c.args.i ∙ ap (λ o. is_some o) (sym c.take_out.ensures.entry ∙ c.in-Some.is))

pub returns-else-is_timely-clause-answers : goal.returns-else-is_timely-clause-answers
returns-else-is_timely-clause-answers c =
    answers c.args.now c.args.i c.args.self.now c.take_out.new.self None
    (sym (ap (timely c.args.now) (sym c.take_out.ensures.entry ∙ c.in-Some.is)
    ∙ timely_some c.args.now c.in-Some.answered false (sym c.is_timely.ensures ∙ c.if-is_timely.false)))
    c.take_out.ensures.taken c.take_out.new.self (λ j. refl)

pub returns-else-is_timely-clause-taken : goal.returns-else-is_timely-clause-taken
returns-else-is_timely-clause-taken c = changed_moment c.args.i None c.args.self.now _ c.take_out.ensures.taken
