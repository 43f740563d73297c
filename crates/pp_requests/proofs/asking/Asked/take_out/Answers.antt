use Rattle.std.proofs.Common.{ℕ, ◌==◌, sym, ◌∙◌, ap, subst, List, None, cond}
use Rattle.std.specs.Prelude.{position}
use Rattle.pp_requests.specs.declared.asking.Asking.{Asking}
use Rattle.pp_requests.specs.Moments.{entry_of, IsRisingFrom}
use Rattle.pp_requests.proofs.Entries.{removed_rising, found_chunk}
use Rattle.pp_requests.proofs.Chunks.{removed_entry, entry_there, found_entry, unchanged_entry}
use Rattle.pp_requests.proofs.asking.Asked.take_out.Goals as goal

pub invariant_of-self : goal.invariant_of-self
invariant_of-self c =
    subst (λ (xs : List Asking). IsRisingFrom 0 xs) (sym c.remove.ensures.items)
    (removed_rising c.self.inside.entries.items 0 c.in_ok-at.at c.self.invariant)

pub returns-clause-entry : goal.returns-clause-entry
returns-clause-entry c =
    let found = found_chunk c.self.inside.entries.items c.args.i c.in_ok-at.at c.remove.result
    (sym c.in_ok-at.was ∙ c.find.ensures ∙ ap (λ (xs : List Asking). position (λ y. y.chunk == c.args.i) xs) c.deref.ensures.0)
    c.remove.ensures.value in
    let there = entry_there c.self.inside.entries.items 0 c.in_ok-at.at c.remove.result c.self.invariant found.0 c.remove.ensures.value in
    sym (ap (λ (i : ℕ). entry_of c.args.self.now i) (sym found.1)
    ∙ ap (λ (xs : List Asking). entry_of xs c.remove.result.chunk) (sym c.self.view_is) ∙ there)

pub returns-clause-taken : goal.returns-clause-taken
returns-clause-taken c j =
    let found = found_chunk c.self.inside.entries.items c.args.i c.in_ok-at.at c.remove.result
    (sym c.in_ok-at.was ∙ c.find.ensures ∙ ap (λ (xs : List Asking). position (λ y. y.chunk == c.args.i) xs) c.deref.ensures.0)
    c.remove.ensures.value in
    ap (λ (xs : List Asking). entry_of xs j) c.remove.ensures.items
    ∙ removed_entry c.self.inside.entries.items 0 c.in_ok-at.at c.remove.result c.self.invariant found.0 c.remove.ensures.value j
    ∙ ap (λ (i : ℕ). cond (i == j) None (entry_of c.self.inside.entries.items j)) found.1
    ∙ ap (λ (xs : List Asking). cond (c.args.i == j) None (entry_of xs j)) c.self.view_is

pub returns-in_err-at-clause-entry : goal.returns-in_err-at-clause-entry
returns-in_err-at-clause-entry c =
    let none = found_entry c.args.self.now c.args.i
    (sym (ap (λ (xs : List Asking). position (λ y. y.chunk == c.args.i) xs) (c.deref.ensures.0 ∙ c.self.view_is))
    ∙ sym c.find.ensures ∙ c.in_err-at.was) in
    c.from_residual.ensures ∙ sym none

pub returns-in_err-at-clause-taken : goal.returns-in_err-at-clause-taken
returns-in_err-at-clause-taken c =
    unchanged_entry c.args.self.now c.args.i (found_entry c.args.self.now c.args.i
    (sym (ap (λ (xs : List Asking). position (λ y. y.chunk == c.args.i) xs) (c.deref.ensures.0 ∙ c.self.view_is))
    ∙ sym c.find.ensures ∙ c.in_err-at.was))
