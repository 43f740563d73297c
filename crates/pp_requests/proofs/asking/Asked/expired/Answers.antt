use Rattle.std.proofs.Common.{◌==◌, ◌-◌, nat_le, sym, ◌∙◌, ap, subst, List, None, cond}
use Rattle.std.specs.Prelude.{position}
use Rattle.std.proofs.lemmas.List.Quantifiers.{position-Some}
use Rattle.pp_requests.specs.declared.asking.Asking.{Asking}
use Rattle.pp_requests.specs.Moments.{entry_of, IsRisingFrom, IsLeastExpired}
use Rattle.pp_requests.proofs.Entries.{removed_rising, first_expired, none_expired, match_none}
use Rattle.pp_requests.proofs.Chunks.{removed_entry, changed_moment}
use Rattle.pp_requests.proofs.asking.Asked.expired.Goals as goal

pub returns-in_err-at-clause-least : goal.returns-in_err-at-clause-least
returns-in_err-at-clause-least c =
    let none = sym (ap (λ (xs : List Asking). position (λ y. nat_le 10_000_000 (c.args.now - y.moment)) xs) (c.deref.ensures.0 ∙ c.self.view_is))
    ∙ sym c.first_expired.ensures ∙ c.in_err-at.was in
    match_none c.from_residual.result c.args.self.now c.args.now c.from_residual.ensures (none_expired c.args.self.now c.args.now none)

pub invariant_of-self : goal.invariant_of-self
invariant_of-self c =
    subst (λ (xs : List Asking). IsRisingFrom 0 xs) (sym c.remove.ensures.items)
    (removed_rising c.self.inside.entries.items 0 c.in_ok-at.at c.self.invariant)

pub returns-clause-least : goal.returns-clause-least
returns-clause-least c =
    let found = sym c.in_ok-at.was ∙ c.first_expired.ensures
    ∙ ap (λ (xs : List Asking). position (λ y. nat_le 10_000_000 (c.args.now - y.moment)) xs) c.deref.ensures.0 in
    subst (λ (xs : List Asking). IsLeastExpired xs c.args.now c.remove.result.chunk) c.self.view_is
    (first_expired c.self.inside.entries.items c.args.now c.in_ok-at.at c.remove.result c.self.invariant found c.remove.ensures.value)

pub returns-clause-entries : goal.returns-clause-entries
returns-clause-entries c j =
    let found = sym c.in_ok-at.was ∙ c.first_expired.ensures
    ∙ ap (λ (xs : List Asking). position (λ y. nat_le 10_000_000 (c.args.now - y.moment)) xs) c.deref.ensures.0 in
    let within = (position-Some (λ y. nat_le 10_000_000 (c.args.now - y.moment)) c.self.inside.entries.items c.in_ok-at.at c.remove.result
    (sym found)).0 in
    ap (λ (xs : List Asking). entry_of xs j) c.remove.ensures.items
    ∙ removed_entry c.self.inside.entries.items 0 c.in_ok-at.at c.remove.result c.self.invariant within c.remove.ensures.value j
    ∙ ap (λ (xs : List Asking). cond (c.remove.result.chunk == j) None (entry_of xs j)) c.self.view_is

pub returns-clause-taken : goal.returns-clause-taken
returns-clause-taken c = changed_moment c.remove.result.chunk None c.args.self.now _ (returns-clause-entries c)
