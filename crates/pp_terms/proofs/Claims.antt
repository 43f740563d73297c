-- What is claimed of nodes.
use Rattle.std.proofs.Common.{◌≡◌, ⊎_elim, ℕ, eqb, true, ◌&&◌, Some, List, [], ◌∷◌, length, sym, ◌∙◌, ap}
use Rattle.std.specs.List.{list_all}
use Rattle.std.proofs.lemmas.Bool.{cases_Bool, cond-true, cond-false, and_parts, eqb-true}
use Rattle.pp_terms.specs.tree.Book.{AreDigests}
use Rattle.pp_terms.specs.tree.Claims.{Claim, latest}

-- where each claim is of a digest's length, the latest one of a node is
pub latest_digests : (claims : List Claim) → list_all (λ c. eqb (length c.digest) 32) claims ≡ true → AreDigests (latest claims)
latest_digests [] all k j digest e = absurd cc
latest_digests (c ∷ claims) all k j digest e =
    let parts = and_parts (eqb (length c.digest) 32) (list_all (λ x. eqb (length x.digest) 32) claims) all in
    ⊎_elim
    (λ here. let same : Some c.digest ≡ Some digest = sym (cond-true (eqb c.node.layer k && eqb c.node.offset j) (Some c.digest) (latest claims k j) here) ∙ e in
    let is : c.digest ≡ digest = cc in
    ap (λ (xs : List ℕ). length xs) (sym is) ∙ eqb-true (length c.digest) 32 parts.0)
    (λ other. latest_digests claims parts.1 k j digest (sym (cond-false (eqb c.node.layer k && eqb c.node.offset j) (Some c.digest) (latest claims k j) other) ∙ e))
    (cases_Bool (eqb c.node.layer k && eqb c.node.offset j))
