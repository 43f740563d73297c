-- Whether the hashes before a chunk are those of its plan, span by span.
use Rattle.std.specs.Prelude.{◌≡◌, ◌↔◌, ℕ, ◌≤◌, Bool, true, false, if◌then◌else◌, Option, Some, None, List, [], ◌∷◌, length, take, map}
use Rattle.std.specs.List.{list_all}
use Rattle.pp_terms.specs.format.Traffic.{Record}
use Rattle.pp_terms.specs.format.Descriptor.{Descriptor, chunks_of}
use Rattle.pp_terms.specs.format.Messages.{Message, Integrity}
use Rattle.pp_terms.specs.tree.Range.{Span, leaves_of}
use Rattle.pp_terms.specs.tree.Tree.{Node, peaks}
use Rattle.pp_traffic.specs.Life.{Life}
use Rattle.pp_traffic.specs.Hashes.{is_span_of}
use Rattle.pp_traffic.specs.Laws.{plan}
use Rattle.pp_promises.specs.Datagrams.{hash_spans, is_read_told}
use Rattle.pp_recorded.specs.Parts.{rest}
use Rattle.pp_recorded.specs.declared.hashes.Front.{Front}

-- the span of an INTEGRITY message, in front of others
abbrev pub hash_span : Message → Option Span
hash_span (Integrity span digest) = Some span
hash_span _ = None

abbrev pub with_span : Option Span → List Span → List Span
with_span None spans = spans
with_span (Some span) spans = span ∷ spans

-- the spans of the messages that are left
abbrev pub spans_at : Descriptor → List ℕ → Front → List Span
spans_at d bytes front = hash_spans (take front.left (rest d bytes front.at))

-- the spans behind those of some nodes, none where others stand there
abbrev pub without : List Node → List Span → Option (List Span)
without [] spans = Some spans
without (n ∷ ns) [] = None
without (n ∷ ns) (span ∷ spans) = if is_span_of n span then without ns spans else None

-- the peaks, which come first unless all are told
abbrev pub first_of : ℕ → (Node → Bool) → List Node
first_of chunks told = if list_all told (peaks chunks) then [] else peaks chunks

-- nothing stands behind them
abbrev pub is_end : Option (List Span) → Bool
is_end None = false
is_end (Some []) = true
is_end (Some (span ∷ spans)) = false

-- the hashes before a chunk are those of its plan
abbrev pub is_planned : Descriptor → List Record → ℕ → List Message → Life → Bool
is_planned d past i front life = is_end (without (plan (chunks_of d) (is_read_told d life past) i) (hash_spans front))

-- which is exact
abbrev pub PlannedIsTested : Type 0
PlannedIsTested = (d : Descriptor) (past : List Record) (i : ℕ) (front : List Message) (life : Life)
    → (is_planned d past i front life ≡ true) ↔ (hash_spans front ≡ map leaves_of (plan (chunks_of d) (is_read_told d life past) i))

-- A span is the first that is left, and others are behind it.
pub record IsNext (d : Descriptor) (bytes : List ℕ) (front : Front) (span : Span) (more : Front) : Type 0 where
  pub within : more.at ≤ length bytes
  pub spans : spans_at d bytes front ≡ span ∷ spans_at d bytes more
