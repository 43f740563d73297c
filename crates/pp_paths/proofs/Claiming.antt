-- The claims as the code keeps them, and as a contract sees them.
use Rattle.std.proofs.Common.{◌≡◌, ℕ, zero, suc, ◌==◌, ◌&&◌, Bool, length, true, false, cond, Some, List, [], ◌∷◌, take, refl, sym, ◌∙◌, ap, inl, inr}
use Rattle.std.specs.Prelude.{map}
use Rattle.std.specs.Option.{option_map}
use Rattle.std.specs.List.{find}
use Rattle.std.proofs.lemmas.Bool.{cases_Bool}
use Rattle.std.proofs.lemmas.List.{take-map}
use Rattle.pp_paths.specs.declared.claims.Claim.{Claim}
use Rattle.pp_terms.specs.tree.Claims as plain
use Rattle.pp_terms.specs.tree.Claims.{latest}
use Rattle.pp_terms.specs.tree.Book.{AreDigests}
use Rattle.pp_paths.specs.Claim.{claimed_of, is_claim_of}

-- the first claim of a node
pub newest_is : (claims : List Claim) (k j : ℕ)
    → option_map (λ c. c.digest) (find (is_claim_of k j) claims) ≡ latest (map claimed_of claims) k j
newest_is [] k j = refl
newest_is (c ∷ cs) k j = elim (is_claim_of k j c)
    as (λ b. option_map (λ x. x.digest) (cond b (Some c) (find (is_claim_of k j) cs)) ≡ cond b (Some c.digest) (latest (map claimed_of cs) k j)) [
      | true ↦ refl
      | false ↦ newest_is cs k j
    ]

-- one claim more
pub added_is : (claim : Claim) (claims : List Claim) (capacity : ℕ) → capacity ≡ 128
    → map claimed_of (take capacity (claim ∷ claims)) ≡ take 128 (claimed_of claim ∷ map claimed_of claims)
added_is claim claims capacity e =
    sym (take-map claimed_of capacity (claim ∷ claims)) ∙ ap (λ n. take n (claimed_of claim ∷ map claimed_of claims)) e

-- what is claimed by the first claims is claimed by all
first_claims : (claims : List plain.Claim) (n k j : ℕ) (digest : List ℕ) → latest (take n claims) k j ≡ Some digest → latest claims k j ≡ Some digest
first_claims [] zero k j digest is = is
first_claims [] (suc n) k j digest is = is
first_claims (c ∷ cs) zero k j digest is = cc
first_claims (c ∷ cs) (suc n) k j digest is =
    let rest = first_claims cs n k j digest in
    elim (cases_Bool (c.node.layer == k && c.node.offset == j)) [
      | inl t ↦ ap (λ b. cond b (Some c.digest) (latest cs k j)) t ∙ sym (ap (λ b. cond b (Some c.digest) (latest (take n cs) k j)) t) ∙ is
      | inr f ↦
          ap (λ b. cond b (Some c.digest) (latest cs k j)) f
          ∙ rest (sym (ap (λ b. cond b (Some c.digest) (latest (take n cs) k j)) f) ∙ is)
    ]

-- one claim more, of 32 bytes
pub added_digests : (claim : Claim) (claims after : List Claim) (capacity : ℕ) → length claim.digest ≡ 32
    → AreDigests (latest (map claimed_of claims)) → after ≡ take capacity (claim ∷ claims) → AreDigests (latest (map claimed_of after))
added_digests claim claims after capacity long digests is k j digest at =
    let first : latest (take capacity (map claimed_of (claim ∷ claims))) k j ≡ Some digest =
    ap (λ xs. latest xs k j) (take-map claimed_of capacity (claim ∷ claims)) ∙ sym (ap (λ xs. latest (map claimed_of xs) k j) is) ∙ at in
    go (claim.node.layer == k && claim.node.offset == j) refl (first_claims (map claimed_of (claim ∷ claims)) capacity k j digest first)
  where
    go : (b : Bool) → (claim.node.layer == k && claim.node.offset == j) ≡ b
        → latest (claimed_of claim ∷ map claimed_of claims) k j ≡ Some digest → length digest ≡ 32
    go true t e =
        let same : Some claim.digest ≡ Some digest = sym (ap (λ b. cond b (Some claim.digest) (latest (map claimed_of claims) k j)) t) ∙ e in
        let d : claim.digest ≡ digest = cc in ap (λ xs. length xs) (sym d) ∙ long
    go false f e = digests k j digest (sym (ap (λ b. cond b (Some claim.digest) (latest (map claimed_of claims) k j)) f) ∙ e)
