-- The newest claim of a node, message by message, and what the peer of a channel claims before a message.
use Rattle.std.specs.Prelude.{ℕ, ◌+◌, ◌==◌, nat_le, nat_lt, Bool, ◌&&◌, if◌then◌else◌, Option, Some, None, List, [], ◌∷◌, length, take}
use Rattle.pp_terms.specs.format.Traffic.{Record}
use Rattle.pp_terms.specs.format.Descriptor.{Descriptor, chunks_of}
use Rattle.pp_terms.specs.format.Messages.{Message, Integrity}
use Rattle.pp_terms.specs.tree.Book.{LookUp}
use Rattle.pp_terms.specs.tree.Claims.{Claim, latest}
use Rattle.pp_terms.specs.tree.Tree.{Node}
use Rattle.pp_traffic.specs.Claims.{named, with_claims_of}
use Rattle.pp_traffic.specs.Life.{Life, comes_on}
use Rattle.pp_traffic.specs.Past.{read}
use Rattle.pp_promises.specs.ReadStory.{is_read}
use Rattle.pp_recorded.specs.Entries.{past, life_of}
use Rattle.pp_recorded.specs.Parts.{all}
use Rattle.pp_recorded.specs.declared.claims.Newest.{Newest}
use Rattle.pp_recorded.specs.declared.claims.Claims.{Claims}

-- how many claims are behind a newer one, counted up to 128
abbrev pub one_more_behind : ℕ → ℕ
one_more_behind n = if nat_lt n 128 then n + 1 else n

-- the newest claim of a node behind one more claim
abbrev pub after_claim : Node → Node → List ℕ → Newest → Newest
after_claim at node digest newest =
    if node.layer == at.layer && node.offset == at.offset
    then record { digest = Some digest; behind = 0 }
    else record { digest = newest.digest; behind = one_more_behind newest.behind }

-- among some claims, the newest of which stand first
abbrev pub newest_of : Node → List Claim → Newest
newest_of at [] = record { digest = None; behind = 0 }
newest_of at (c ∷ cs) = after_claim at c.node c.digest (newest_of at cs)

-- behind messages
abbrev pub after_named : Node → Option Node → List ℕ → Newest → Newest
after_named at None digest newest = newest
after_named at (Some node) digest newest = after_claim at node digest newest

abbrev pub newest_by : ℕ → Node → Message → Newest → Newest
newest_by chunks at (Integrity span digest) newest = after_named at (named chunks span) digest newest
newest_by chunks at _ newest = newest

abbrev pub newest_after : ℕ → Node → List Message → Newest → Newest
newest_after chunks at [] newest = newest
newest_after chunks at (m ∷ ms) newest = newest_after chunks at ms (newest_by chunks at m newest)

-- the claims behind some messages
abbrev pub claims_after : ℕ → List Message → List Claim → List Claim
claims_after chunks [] claims = claims
claims_after chunks (m ∷ ms) claims = claims_after chunks ms (with_claims_of chunks m claims)

-- the record at a place is read, and came once the peer's address was proven
abbrev pub is_proven : Descriptor → Life → Bool → ℕ → Record → Bool
is_proven d life is_read place r = is_read && comes_on d life r && nat_le life.opening place

-- the claims of the records that are read once the address was proven
abbrev pub proven_claims : Descriptor → Life → List Record → List Claim
proven_claims d life [] = []
proven_claims d life (r ∷ before) =
    if is_proven d life (is_read d life (r ∷ before)) (length before) r
    then claims_after (chunks_of d) (read d r).messages.read (proven_claims d life before)
    else proven_claims d life before

-- the claims of these records, and of the first messages of a newer datagram
abbrev pub claims_of : Claims → List Claim
claims_of c =
    claims_after (chunks_of c.descriptor.now) (take c.count (all c.descriptor.now c.bytes.now))
    (proven_claims c.descriptor.now (life_of c.life) (past c.entries.now))

abbrev pub known_of : Claims → LookUp
known_of c = latest (take 128 (claims_of c))
