-- The hashes that a chunk needs, and those that a peer has told it knows (RFC 7574, sections 5.2 to 5.5).
use Rattle.std.specs.Prelude.{◌≡◌, ℕ, zero, suc, ◌+◌, ◌==◌, nat_le, nat_lt, Bool, true, false, not, ◌&&◌, ◌||◌, List, [], ◌∷◌, Some}
use Rattle.std.specs.List.{list_any, list_all}
use Rattle.pp_terms.specs.tree.Tree.{Node, height, peaks, is_peak, leaf_at}
use Rattle.pp_terms.specs.tree.Bins.{first_leaf, last_leaf, parent_of, sibling_of}
use Rattle.pp_terms.specs.tree.Book.{LookUp}
use Rattle.pp_terms.specs.format.Messages.{Message, Ack, Have, Integrity}
use Rattle.pp_terms.specs.tree.Range.{Span}
use Rattle.pp_traffic.specs.Story.{Line, Heard, Said, Taken}

-- some chunk of the content that the span names lies under the node
abbrev pub meets : ℕ → Span → Node → Bool
meets chunks span n = nat_lt (first_leaf n) chunks && nat_le (first_leaf n) span.last && nat_le span.first (last_leaf n)

-- A peer that has the chunks of a span knows all peaks, and both children of each node above one of these chunks. Chunks
-- past the content don't count.
abbrev pub tells : ℕ → Span → Node → Bool
tells chunks span n = nat_lt span.first chunks && nat_le span.first span.last
    && (is_peak chunks n || (nat_lt n.layer (height chunks) && meets chunks span (parent_of n)))

abbrev pub told_by : ℕ → Node → Message → Bool
told_by chunks n (Ack span delay) = tells chunks span n
told_by chunks n (Have span) = tells chunks span n
told_by chunks n _ = false

-- the peer has told, by HAVE or ACK, that it knows the node
abbrev pub is_told : ℕ → List Line → Node → Bool
is_told chunks [] n = false
is_told chunks (Heard now m ∷ before) n = told_by chunks n m || is_told chunks before n
is_told chunks (Said now m ∷ before) n = is_told chunks before n
is_told chunks (Taken now ∷ before) n = is_told chunks before n

-- The path from a node up is complete for who is brought some nodes and was told of others: at the first node on the way
-- which is told or a peak, it is told, or all peaks are brought or told; and the siblings of the nodes before it are too.
-- The first number bounds the way.
abbrev pub completes_from : ℕ → ℕ → (Node → Bool) → (Node → Bool) → Node → Bool
completes_from zero chunks brought told n = false
completes_from (suc layers) chunks brought told n =
    told n
    || (is_peak chunks n && list_all (λ p. brought p || told p) (peaks chunks))
    || (not (is_peak chunks n) && (brought (sibling_of n) || told (sibling_of n))
    && completes_from layers chunks brought told (parent_of n))

-- the path of a chunk
abbrev pub completes : ℕ → (Node → Bool) → (Node → Bool) → ℕ → Bool
completes chunks brought told i = completes_from (height chunks + 1) chunks brought told (leaf_at i)

-- the span is all leaves under the node
abbrev pub is_span_of : Node → Span → Bool
is_span_of n span = span.first == first_leaf n && span.last == last_leaf n

-- INTEGRITY messages bring these nodes
abbrev pub brings_node : Node → Message → Bool
brings_node n (Integrity span digest) = is_span_of n span
brings_node n _ = false

abbrev pub brings : List Message → Node → Bool
brings front n = list_any (brings_node n) front

-- An INTEGRITY message has the book's digest of a node.
abbrev pub Carries : LookUp → Message → Type 0
Carries book (Integrity span digest) = (n : Node) × (is_span_of n span ≡ true) × (book n.layer n.offset ≡ Some digest)
Carries book _ = Unit {0}
