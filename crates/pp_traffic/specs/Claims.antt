-- The digests that the other peer of a channel claims (RFC 7574, sections 3.5 and 5.6): the latest of each node, among the last
-- 128 INTEGRITY messages that came and name a node of chunks of the content.
use Rattle.std.specs.Prelude.{ℕ, zero, suc, ◌-◌, ◌/◌, ◌^◌, nat_lt, min, if◌then◌else◌, Option, Some, None, List, [], ◌∷◌, take}
use Rattle.pp_terms.specs.tree.Tree.{Node}
use Rattle.pp_terms.specs.tree.Range.{Span}
use Rattle.pp_terms.specs.tree.Book.{LookUp}
use Rattle.pp_terms.specs.tree.Claims.{Claim, latest}
use Rattle.pp_terms.specs.format.Messages.{Message, Integrity}
use Rattle.pp_traffic.specs.Story.{Line, Heard, Said, Taken}
use Rattle.pp_traffic.specs.Hashes.{is_span_of}

-- the node of a layer over the first chunk of a span
abbrev pub node_over : ℕ → Span → Node
node_over layer span = record { layer = layer; offset = span.first / 2 ^ layer }

-- the node whose leaves are the span, below a layer
abbrev pub node_below : ℕ → Span → Option Node
node_below zero span = None
node_below (suc layer) span = if is_span_of (node_over layer span) span then Some (node_over layer span) else node_below layer span

-- the span as far as it lies in a content of so many chunks
abbrev pub cut_to : ℕ → Span → Span
cut_to chunks span = record { first = span.first; last = min span.last (chunks - 1) }

-- the node that a span names in such a content; all its leaves are chunks
abbrev pub named : ℕ → Span → Option Node
named chunks span = if nat_lt span.first chunks then node_below 21 (cut_to chunks span) else None

abbrev pub with_claim : Option Node → List ℕ → List Claim → List Claim
with_claim None digest claims = claims
with_claim (Some node) digest claims = record { node = node; digest = digest } ∷ claims

abbrev pub with_claims_of : ℕ → Message → List Claim → List Claim
with_claims_of chunks (Integrity span digest) claims = with_claim (named chunks span) digest claims
with_claims_of chunks _ claims = claims

-- the claims of a story, the newest first
abbrev pub claims_in : ℕ → List Line → List Claim
claims_in chunks [] = []
claims_in chunks (Heard now m ∷ before) = with_claims_of chunks m (claims_in chunks before)
claims_in chunks (Said now m ∷ before) = claims_in chunks before
claims_in chunks (Taken now ∷ before) = claims_in chunks before

-- the latest of each node among the last 128
abbrev pub claimed : ℕ → List Line → LookUp
claimed chunks story = latest (take 128 (claims_in chunks story))
