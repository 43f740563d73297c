-- Hashes of a book that come in a datagram are claimed as they are in the book.
use Rattle.std.proofs.Common.{◌≡◌, ⊎_elim, ℕ, zero, suc, ◌+◌, ◌-◌, ◌*◌, ◌^◌, ◌<◌, ◌≤◌, ◌==◌, Bool, true, false, cond, ◌&&◌, Option, Some, List, [], ◌∷◌, length, take, refl, sym, ◌∙◌, ap, subst, arith}
use Rattle.std.specs.List.{AllByRecursion}
use Rattle.std.proofs.lemmas.Bool.{or_cases, and_parts, eqb-true, eq-eqb}
use Rattle.std.proofs.lemmas.Nat.{pow_pos}
use Rattle.std.proofs.lemmas.Option.{same_Some}
use Rattle.pp_terms.specs.tree.Book.{LookUp}
use Rattle.pp_terms.specs.tree.Claims.{Claim, latest}
use Rattle.pp_terms.specs.tree.Range.{Span, leaves_of}
use Rattle.pp_terms.specs.tree.Tree.{Node}
use Rattle.pp_terms.specs.format.Messages.{Message, Integrity}
use Rattle.pp_traffic.specs.Claims.{named, with_claim, claims_in}
use Rattle.pp_traffic.specs.Hashes.{is_span_of, brings, Carries}
use Rattle.pp_traffic.specs.Story.{Line, Heard, hear}
use Rattle.pp_promises.specs.Datagrams.{hash_spans}
use Rattle.pp_seat.proofs.Naming.{named_is}
use Rattle.pp_complete.specs.Laws.{IsClaimedBy}

-- ---- spans

-- no node ends before it begins
leaves_order : (offset width : ℕ) → 0 < width → offset * width ≤ (offset + 1) * width - 1
leaves_order offset width some = omega arith

-- the span of a node's leaves names the node, where all of them are chunks
spans_name : (chunks : ℕ) (span : Span) (n : Node) → chunks ≤ 2 ^ 20 → span.last < chunks → is_span_of n span ≡ true → named chunks span ≡ Some n
spans_name chunks span n most inside spans =
    named_is chunks span span n (record { low = omega (arith, order); order = order; first = refl; last = omega arith })
    (same span.first span.last first_is last_is) most
  where
    both : ((span.first == n.offset * 2 ^ n.layer) ≡ true) × ((span.last == (n.offset + 1) * 2 ^ n.layer - 1) ≡ true)
    both = and_parts (span.first == n.offset * 2 ^ n.layer) (span.last == (n.offset + 1) * 2 ^ n.layer - 1) spans

    first_is : span.first ≡ n.offset * 2 ^ n.layer
    first_is = eqb-true span.first (n.offset * 2 ^ n.layer) both.0

    last_is : span.last ≡ (n.offset + 1) * 2 ^ n.layer - 1
    last_is = eqb-true span.last ((n.offset + 1) * 2 ^ n.layer - 1) both.1

    order : span.first ≤ span.last
    order = (let some = leaves_order n.offset (2 ^ n.layer) (pow_pos n.layer) in omega (arith, first_is, last_is, some))

    same : (first last : ℕ) → first ≡ n.offset * 2 ^ n.layer → last ≡ (n.offset + 1) * 2 ^ n.layer - 1
        → leaves_of n ≡ record { first = first; last = last }
    same first last p q = rw (p, q) refl

-- ---- the latest claims

-- where more claims are kept the latest stays
latest_kept : (kept room : ℕ) (claims : List Claim) (k j : ℕ) (digest : List ℕ) → kept ≤ room → latest (take kept claims) k j ≡ Some digest
    → latest (take room claims) k j ≡ Some digest
latest_kept zero room claims k j digest le is = absurd cc
latest_kept (suc kept) zero claims k j digest le is = absurd (omega arith)
latest_kept (suc kept) (suc room) [] k j digest le is = absurd cc
latest_kept (suc kept) (suc room) (c ∷ cs) k j digest le is =
    by (c.node.layer == k && c.node.offset == j) (λ later. latest_kept kept room cs k j digest (omega arith) later) is
  where
    by : (b : Bool) → (latest (take kept cs) k j ≡ Some digest → latest (take room cs) k j ≡ Some digest)
        → cond b (Some c.digest) (latest (take kept cs) k j) ≡ Some digest → cond b (Some c.digest) (latest (take room cs) k j) ≡ Some digest
    by true rest e = e
    by false rest e = rest e

-- the claim is the book's digest of its node
abbrev IsOf : LookUp → Claim → Type 0
IsOf book c = book c.node.layer c.node.offset ≡ Some c.digest

-- one of the book more, which is of the node or of another
claimed_still : (book : LookUp) (n : Node) (kept : ℕ) (c : Claim) (claims : List Claim) → IsOf book c → IsClaimedBy (latest (take kept claims)) book n
    → IsClaimedBy (latest (take (suc kept) (c ∷ claims))) book n
claimed_still book n kept c claims of was = record {
  digest = was.digest;
  claimed = by (c.node.layer == n.layer && c.node.offset == n.offset) refl;
  is = was.is;
}
  where
    by : (b : Bool) → (c.node.layer == n.layer && c.node.offset == n.offset) ≡ b
        → cond b (Some c.digest) (latest (take kept claims) n.layer n.offset) ≡ Some was.digest
    by true e =
        let both = and_parts (c.node.layer == n.layer) (c.node.offset == n.offset) e in
        let layer = eqb-true c.node.layer n.layer both.0 in
        let offset = eqb-true c.node.offset n.offset both.1 in
        sym of ∙ ap (λ (k : ℕ). book k c.node.offset) layer ∙ ap (λ (j : ℕ). book n.layer j) offset ∙ was.is
    by false e = was.claimed

claimed_here : (book : LookUp) (c : Claim) (claims : List Claim) → IsOf book c → IsClaimedBy (latest (take 1 (c ∷ claims))) book c.node
claimed_here book c claims of = record {
  digest = c.digest;
  claimed = ap (λ (b : Bool). cond (b && c.node.offset == c.node.offset) (Some c.digest) (latest [] c.node.layer c.node.offset))
      (eq-eqb c.node.layer c.node.layer refl)
      ∙ ap (λ (b : Bool). cond b (Some c.digest) (latest [] c.node.layer c.node.offset)) (eq-eqb c.node.offset c.node.offset refl);
  is = of;
}

-- ---- the messages of a datagram

module _ (chunks now : ℕ) (book : LookUp) (n : Node) (most : chunks ≤ 2 ^ 20) where
  -- an INTEGRITY of the book claims the node of its span
  claims_one : (span : Span) (digest : List ℕ) (story : List Line) → span.last < chunks → (c : Carries book (Integrity span digest))
      → claims_in chunks (Heard now (Integrity span digest) ∷ story) ≡ record { node = c.0; digest = digest } ∷ claims_in chunks story
  claims_one span digest story inside c =
      ap (λ (o : Option Node). with_claim o digest (claims_in chunks story)) (spans_name chunks span c.0 most inside c.1)

  -- what is claimed of the node stays so, while hashes of the book come
  stays_claimed : (front : List Message) (story : List Line) (kept room : ℕ) → AllByRecursion (Carries book) front
      → AllByRecursion (λ (span : Span). span.last < chunks) (hash_spans front) → kept + length (hash_spans front) ≤ room
      → IsClaimedBy (latest (take kept (claims_in chunks story))) book n
      → IsClaimedBy (latest (take room (claims_in chunks (hear now front story)))) book n
  stays_claimed [] story kept room carry inside few was = record {
    digest = was.digest;
    claimed = latest_kept kept room (claims_in chunks story) n.layer n.offset was.digest (omega arith) was.claimed;
    is = was.is;
  }
  stays_claimed (Integrity span digest ∷ front) story kept room carry inside few was =
      stays_claimed front (Heard now (Integrity span digest) ∷ story) (suc kept) room carry.1 inside.1 (omega arith)
      (subst (λ (claims : List Claim). IsClaimedBy (latest (take (suc kept) claims)) book n) (sym (claims_one span digest story inside.0 carry.0))
      (claimed_still book n kept (record { node = carry.0.0; digest = digest }) (claims_in chunks story) carry.0.2 was))
  stays_claimed (m ∷ front) story kept room carry inside few was =
      stays_claimed front (Heard now m ∷ story) kept room carry.1 inside few was

  -- each node that they bring is claimed as it is in the book, where so many claims are kept
  pub brought_claimed : (front : List Message) (story : List Line) (room : ℕ) → AllByRecursion (Carries book) front
      → AllByRecursion (λ (span : Span). span.last < chunks) (hash_spans front) → length (hash_spans front) ≤ room → brings front n ≡ true
      → IsClaimedBy (latest (take room (claims_in chunks (hear now front story)))) book n
  brought_claimed [] story room carry inside few brought = absurd cc
  brought_claimed (Integrity span digest ∷ front) story room carry inside few brought = ⊎_elim
      (λ here.
      let same : n ≡ carry.0.0 = same_Some n carry.0.0 (sym (spans_name chunks span n most inside.0 here) ∙ spans_name chunks span carry.0.0 most inside.0 carry.0.1) in
      stays_claimed front (Heard now (Integrity span digest) ∷ story) 1 room carry.1 inside.1 (omega arith)
      (subst (λ (claims : List Claim). IsClaimedBy (latest (take 1 claims)) book n) (sym (claims_one span digest story inside.0 carry.0))
      (subst (λ (m : Node). IsClaimedBy (latest (take 1 (record { node = carry.0.0; digest = digest } ∷ claims_in chunks story))) book m) (sym same)
      (claimed_here book (record { node = carry.0.0; digest = digest }) (claims_in chunks story) carry.0.2))))
      (λ later. brought_claimed front (Heard now (Integrity span digest) ∷ story) room carry.1 inside.1 (omega arith) later)
      (or_cases (is_span_of n span) (brings front n) brought)
  brought_claimed (m ∷ front) story room carry inside few brought =
      brought_claimed front (Heard now m ∷ story) room carry.1 inside few brought
