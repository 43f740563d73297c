use Rattle.std.proofs.Common.{◌≡◌, ◌==◌, ◌∙◌, sym, ap, subst, List, Some, None, cond, nat_le, arith, refl}
use Rattle.std.specs.Prelude.{position, unwrap_or}
use Rattle.pp_requests.specs.declared.asking.Asking.{Asking}
use Rattle.pp_requests.specs.Moments.{asked_at, entry_of, IsRisingFrom}
use Rattle.pp_requests.proofs.Entries.{is_place, inserted_rising}
use Rattle.pp_requests.proofs.Chunks.{none_entry, inserted_entry, changed_moment}
use Rattle.pp_requests.proofs.asking.Asked.ask.Goals as goal

pub invariant_of-self : goal.invariant_of-self
invariant_of-self c =
    let place = is_place c.self.inside.entries.items c.args.i c.unwrap_or-at.result c.not_below.result
    (c.not_below.ensures ∙ ap (λ (xs : List Asking). position (λ x. nat_le c.args.i x.chunk) xs) c.deref.ensures.0)
    (c.unwrap_or-at.ensures ∙ ap (λ n. unwrap_or c.not_below.result n) c.len.ensures.value) in
    let absent : asked_at c.self.inside.entries.items c.args.i ≡ None =
    ap (λ (xs : List Asking). asked_at xs c.args.i) c.self.view_is ∙ c.requires.absent in
    let entry : Asking = record { chunk = c.args.i; moment = c.args.now; overtaken = 0 } in
    subst (λ (xs : List Asking). IsRisingFrom 0 xs) (sym c.insert.ensures.items)
    (inserted_rising c.self.inside.entries.items 0 c.unwrap_or-at.result c.args.i entry refl c.self.invariant (omega arith)
    absent place)

pub returns-clause-entered : goal.returns-clause-entered
returns-clause-entered c j =
    let place = is_place c.self.inside.entries.items c.args.i c.unwrap_or-at.result c.not_below.result
    (c.not_below.ensures ∙ ap (λ (xs : List Asking). position (λ x. nat_le c.args.i x.chunk) xs) c.deref.ensures.0)
    (c.unwrap_or-at.ensures ∙ ap (λ n. unwrap_or c.not_below.result n) c.len.ensures.value) in
    let absent = none_entry c.self.inside.entries.items c.args.i
    (ap (λ (xs : List Asking). asked_at xs c.args.i) c.self.view_is ∙ c.requires.absent) in
    let entry : Asking = record { chunk = c.args.i; moment = c.args.now; overtaken = 0 } in
    ap (λ (xs : List Asking). entry_of xs j) c.insert.ensures.items
    ∙ inserted_entry c.self.inside.entries.items c.unwrap_or-at.result c.args.i entry refl absent place.within j
    ∙ ap (λ (xs : List Asking). cond (c.args.i == j) (Some entry) (entry_of xs j)) c.self.view_is

pub returns-clause-asked : goal.returns-clause-asked
returns-clause-asked c =
    changed_moment c.args.i (Some (record { chunk = c.args.i; moment = c.args.now; overtaken = 0 })) c.args.self.now _ (returns-clause-entered c)
