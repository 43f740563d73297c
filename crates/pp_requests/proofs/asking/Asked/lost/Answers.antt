use Rattle.std.proofs.Common.{◌==◌, sym, ◌∙◌, ap, subst, List, None, cond}
use Rattle.std.specs.Prelude.{position}
use Rattle.std.proofs.lemmas.List.Quantifiers.{position-Some}
use Rattle.pp_requests.specs.declared.asking.Asking.{Asking}
use Rattle.pp_requests.specs.Moments.{entry_of, IsRisingFrom, is_lost, IsLeastLost}
use Rattle.pp_requests.proofs.Entries.{removed_rising}
use Rattle.pp_requests.proofs.Chunks.{removed_entry, changed_moment, first_lost, none_lost, match_none_lost}
use Rattle.pp_requests.proofs.asking.Asked.lost.Goals as goal

pub returns-in_err-at-clause-least : goal.returns-in_err-at-clause-least
returns-in_err-at-clause-least c =
    let none = sym (ap (λ (xs : List Asking). position is_lost xs) (c.deref.ensures.0 ∙ c.self.view_is))
    ∙ sym c.first_lost.ensures ∙ c.in_err-at.was in
    match_none_lost c.from_residual.result c.args.self.now c.from_residual.ensures (none_lost c.args.self.now none)

pub invariant_of-self : goal.invariant_of-self
invariant_of-self c =
    subst (λ (xs : List Asking). IsRisingFrom 0 xs) (sym c.remove.ensures.items)
    (removed_rising c.self.inside.entries.items 0 c.in_ok-at.at c.self.invariant)

pub returns-clause-least : goal.returns-clause-least
returns-clause-least c =
    let found = sym c.in_ok-at.was ∙ c.first_lost.ensures ∙ ap (λ (xs : List Asking). position is_lost xs) c.deref.ensures.0 in
    subst (λ (xs : List Asking). IsLeastLost xs c.remove.result.chunk) c.self.view_is
    (first_lost c.self.inside.entries.items c.in_ok-at.at c.remove.result c.self.invariant found c.remove.ensures.value)

pub returns-clause-entries : goal.returns-clause-entries
returns-clause-entries c j =
    let found = sym c.in_ok-at.was ∙ c.first_lost.ensures ∙ ap (λ (xs : List Asking). position is_lost xs) c.deref.ensures.0 in
    let within = (position-Some is_lost c.self.inside.entries.items c.in_ok-at.at c.remove.result (sym found)).0 in
    ap (λ (xs : List Asking). entry_of xs j) c.remove.ensures.items
    ∙ removed_entry c.self.inside.entries.items 0 c.in_ok-at.at c.remove.result c.self.invariant within c.remove.ensures.value j
    ∙ ap (λ (xs : List Asking). cond (c.remove.result.chunk == j) None (entry_of xs j)) c.self.view_is

pub returns-clause-taken : goal.returns-clause-taken
returns-clause-taken c = changed_moment c.remove.result.chunk None c.args.self.now _ (returns-clause-entries c)
