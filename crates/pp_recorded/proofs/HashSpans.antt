-- The spans of hashes, one after the other, and the nodes of a plan.
use Rattle.std.proofs.Common.{◌≡◌, ℕ, zero, suc, ◌+◌, ◌-◌, ◌<◌, eqb, Bool, true, false, cond, not, ◌||◌, Option, Some, None, List, [], ◌∷◌, ◌++◌, length, get_or, take, drop, map, refl, sym, ◌∙◌, ap, arith, add-one}
use Rattle.std.specs.Prelude.{option_and_then, option_map, is_some, MatchOption}
use Rattle.std.specs.List.{list_all}
use Rattle.std.proofs.lemmas.Bool.{and_parts, and_from, eqb-true, eq-eqb}
use Rattle.std.proofs.Math.Seq.{drop-cons}
use Rattle.pp_terms.specs.format.Descriptor.{Descriptor, chunks_of}
use Rattle.pp_terms.specs.format.Messages.{Message, Handshake, Data, Ack, Have, Integrity, Pex4, PexReq, Request, Cancel, Choke, Unchoke, Pex6}
use Rattle.pp_terms.specs.tree.Range.{Span, leaves_of}
use Rattle.pp_terms.specs.tree.Tree.{Node, height, peaks, is_peak, leaf_at}
use Rattle.pp_terms.specs.tree.Bins.{first_leaf, last_leaf, parent_of, sibling_of}
use Rattle.pp_traffic.specs.Hashes.{is_span_of}
use Rattle.pp_traffic.specs.Laws.{uncles_from, plan}
use Rattle.pp_promises.specs.Datagrams.{hash_spans, is_read_told}
use Rattle.pp_tree.specs.declared.node.Node as code
use Rattle.pp_tree.specs.Node.{node_of}
use Rattle.pp_recorded.specs.Parts.{rest}
use Rattle.pp_wire.specs.declared.message.Span as wire
use Rattle.pp_wire.specs.Views.{span_of}
use Rattle.pp_recorded.specs.declared.hashes.Front.{Front}
use Rattle.pp_recorded.specs.Plans.{hash_span, with_span, spans_at, without, is_end, first_of, PlannedIsTested, IsNext}

-- ---- the spans of messages

hash_more : (m : Message) (ms : List Message) → hash_spans (m ∷ ms) ≡ with_span (hash_span m) (hash_spans ms)
hash_more (Handshake source options) ms = refl
hash_more (Data chunk sent_at bytes) ms = refl
hash_more (Ack span delay) ms = refl
hash_more (Have span) ms = refl
hash_more (Integrity span digest) ms = refl
hash_more (Pex4 address port) ms = refl
hash_more PexReq ms = refl
hash_more (Request span) ms = refl
hash_more (Cancel span) ms = refl
hash_more Choke ms = refl
hash_more Unchoke ms = refl
hash_more (Pex6 address port) ms = refl

pub spans_more : (d : Descriptor) (bytes : List ℕ) (at left next : ℕ) (m : Message) → 0 < left → rest d bytes at ≡ m ∷ rest d bytes next
    → hash_spans (take left (rest d bytes at)) ≡ with_span (hash_span m) (hash_spans (take (left - 1) (rest d bytes next)))
spans_more d bytes at left next m some is =
    ap (λ (n : ℕ). hash_spans (take n (rest d bytes at))) (let e : left ≡ suc (left - 1) = omega arith in e)
    ∙ ap (λ (ms : List Message). hash_spans (take (suc (left - 1)) ms)) is
    ∙ hash_more m (take (left - 1) (rest d bytes next))

pub spans_none : (d : Descriptor) (bytes : List ℕ) (at left : ℕ) → rest d bytes at ≡ [] → hash_spans (take left (rest d bytes at)) ≡ []
spans_none d bytes at left none = ap (λ (ms : List Message). hash_spans (take left ms)) none ∙ by left
  where
    by : (n : ℕ) → hash_spans (take n []) ≡ []
    by zero = refl
    by (suc n) = refl

-- ---- the spans of nodes in front of others

pub without_append : (ns ms : List Node) (spans : List Span) → without (ns ++ ms) spans ≡ option_and_then (λ rest. without ms rest) (without ns spans)
without_append [] ms spans = refl
without_append (n ∷ ns) ms [] = refl
without_append (n ∷ ns) ms (span ∷ spans) = by (without_append ns ms spans) (is_span_of n span)
  where
    by : without (ns ++ ms) spans ≡ option_and_then (λ rest. without ms rest) (without ns spans) → (b : Bool)
        → cond b (without (ns ++ ms) spans) None ≡ option_and_then (λ rest. without ms rest) (cond b (without ns spans) None)
    by more true = more
    by more false = refl

is_leaves : (n : Node) (span : Span) → is_span_of n span ≡ true → span ≡ leaves_of n
is_leaves n span e =
    let parts = and_parts (eqb span.first (first_leaf n)) (eqb span.last (last_leaf n)) e in
    ap (λ (f : ℕ). record { first = f; last = span.last }) (eqb-true span.first (first_leaf n) parts.0)
    ∙ ap (λ (l : ℕ). record { first = first_leaf n; last = l }) (eqb-true span.last (last_leaf n) parts.1)

leaves_are : (n : Node) → is_span_of n (leaves_of n) ≡ true
leaves_are n =
    and_from (eqb (first_leaf n) (first_leaf n)) (eqb (last_leaf n) (last_leaf n)) (eq-eqb (first_leaf n) (first_leaf n) refl) (eq-eqb (last_leaf n) (last_leaf n) refl)

all_without : (ns : List Node) (spans : List Span) → is_end (without ns spans) ≡ true → spans ≡ map leaves_of ns
all_without [] [] e = refl
all_without [] (span ∷ spans) e = absurd cc
all_without (n ∷ ns) [] e = absurd cc
all_without (n ∷ ns) (span ∷ spans) e = by (λ f. all_without ns spans f) (is_span_of n span) refl e
  where
    by : (is_end (without ns spans) ≡ true → spans ≡ map leaves_of ns) → (b : Bool) → is_span_of n span ≡ b
        → is_end (cond b (without ns spans) None) ≡ true → (span ∷ spans) ≡ (leaves_of n ∷ map leaves_of ns)
    by more true is f = let a = is_leaves n span is in let b = more f in cc
    by more false is f = absurd cc

without_all : (ns : List Node) → is_end (without ns (map leaves_of ns)) ≡ true
without_all [] = refl
without_all (n ∷ ns) = ap (λ (b : Bool). is_end (cond b (without ns (map leaves_of ns)) None)) (leaves_are n) ∙ without_all ns

pub planned_is_tested : PlannedIsTested
planned_is_tested d past i front life =
    let nodes = plan (chunks_of d) (is_read_told d life past) i in (
      λ e. all_without nodes (hash_spans front) e,
      λ is. ap (λ (spans : List Span). is_end (without nodes spans)) is ∙ without_all nodes,
    )

-- ---- a plan, from the top of the way down

uncles_on : (k m chunks : ℕ) (told : Node → Bool) (n : Node) (spans : List Span) → k ≡ suc m → told n ≡ false → is_peak chunks n ≡ false
    → without (uncles_from k chunks told n) spans
    ≡ option_and_then (λ rest. without (cond (told (sibling_of n)) [] (sibling_of n ∷ [])) rest) (without (uncles_from m chunks told (parent_of n)) spans)
uncles_on k m chunks told n spans is untold no_peak =
    ap (λ (l : ℕ). without (uncles_from l chunks told n) spans) is
    ∙ ap (λ (b : Bool). without (cond b [] (uncles_from m chunks told (parent_of n) ++ cond (told (sibling_of n)) [] (sibling_of n ∷ []))) spans)
    (ap (λ (b : Bool). b || is_peak chunks n) untold ∙ no_peak)
    ∙ without_append (uncles_from m chunks told (parent_of n)) (cond (told (sibling_of n)) [] (sibling_of n ∷ [])) spans

pub stop_peak : (k m chunks : ℕ) (told : Node → Bool) (n : Node) (spans : List Span) → k ≡ suc m → told n ≡ false → is_peak chunks n ≡ true
    → Some spans ≡ without (uncles_from k chunks told n) spans
stop_peak k m chunks told n spans is untold peak =
    sym (ap (λ (l : ℕ). without (uncles_from l chunks told n) spans) is
    ∙ ap (λ (b : Bool). without (cond b [] (uncles_from m chunks told (parent_of n) ++ cond (told (sibling_of n)) [] (sibling_of n ∷ []))) spans)
    (ap (λ (b : Bool). b || is_peak chunks n) untold ∙ peak))

-- what is left below the sibling, by whether that is told
pub past_told : (k m chunks : ℕ) (told : Node → Bool) (n : Node) (spans more : List Span) → k ≡ suc m → told n ≡ false → is_peak chunks n ≡ false
    → told (sibling_of n) ≡ true → Some more ≡ without (uncles_from m chunks told (parent_of n)) spans → Some more ≡ without (uncles_from k chunks told n) spans
past_told k m chunks told n spans more is untold no_peak known above =
    ap (λ (b : Bool). without (cond b [] (sibling_of n ∷ [])) more) (sym known)
    ∙ ap (λ (o : Option (List Span)). option_and_then (λ rest. without (cond (told (sibling_of n)) [] (sibling_of n ∷ [])) rest) o) above
    ∙ sym (uncles_on k m chunks told n spans is untold no_peak)

pub past_untold : (k m chunks : ℕ) (told : Node → Bool) (n : Node) (spans more : List Span) (left : Option (List Span)) → k ≡ suc m → told n ≡ false → is_peak chunks n ≡ false
    → told (sibling_of n) ≡ false → Some more ≡ without (uncles_from m chunks told (parent_of n)) spans → left ≡ without (sibling_of n ∷ []) more
    → left ≡ without (uncles_from k chunks told n) spans
past_untold k m chunks told n spans more left is untold no_peak unknown above here =
    here
    ∙ ap (λ (b : Bool). without (cond b [] (sibling_of n ∷ [])) more) (sym unknown)
    ∙ ap (λ (o : Option (List Span)). option_and_then (λ rest. without (cond (told (sibling_of n)) [] (sibling_of n ∷ [])) rest) o) above
    ∙ sym (uncles_on k m chunks told n spans is untold no_peak)

pub past_none : (k m chunks : ℕ) (told : Node → Bool) (n : Node) (spans : List Span) → k ≡ suc m → told n ≡ false → is_peak chunks n ≡ false
    → None ≡ without (uncles_from m chunks told (parent_of n)) spans → None ≡ without (uncles_from k chunks told n) spans
past_none k m chunks told n spans is untold no_peak above =
    ap (λ (o : Option (List Span)). option_and_then (λ rest. without (cond (told (sibling_of n)) [] (sibling_of n ∷ [])) rest) o) above
    ∙ sym (uncles_on k m chunks told n spans is untold no_peak)

-- the peaks, and then the others
pub plan_then : (chunks : ℕ) (told : Node → Bool) (i : ℕ) (spans more : List Span) (left : Option (List Span)) → Some more ≡ without (first_of chunks told) spans
    → left ≡ without (uncles_from (height chunks + 1) chunks told (leaf_at i)) more → left ≡ without (plan chunks told i) spans
plan_then chunks told i spans more left first rest =
    rest
    ∙ ap (λ (o : Option (List Span)). option_and_then (λ x. without (uncles_from (height chunks + 1) chunks told (leaf_at i)) x) o) first
    ∙ sym (without_append (first_of chunks told) (uncles_from (height chunks + 1) chunks told (leaf_at i)) spans)

pub plan_none : (chunks : ℕ) (told : Node → Bool) (i : ℕ) (spans : List Span) → None ≡ without (first_of chunks told) spans → None ≡ without (plan chunks told i) spans
plan_none chunks told i spans first =
    ap (λ (o : Option (List Span)). option_and_then (λ x. without (uncles_from (height chunks + 1) chunks told (leaf_at i)) x) o) first
    ∙ sym (without_append (first_of chunks told) (uncles_from (height chunks + 1) chunks told (leaf_at i)) spans)

-- nothing is left
pub end_is : (d : Descriptor) (bytes : List ℕ) (front : Front) (o : Option (wire.Span × Front)) (b : Bool)
    → MatchOption o (spans_at d bytes front ≡ []) (λ x. IsNext d bytes front (span_of x.0) x.1) → is_some o ≡ not b → b ≡ is_end (Some (spans_at d bytes front))
end_is d bytes front None true none e = ap (λ (spans : List Span). is_end (Some spans)) (sym none)
end_is d bytes front None false none e = absurd cc
end_is d bytes front (Some x) true next e = absurd cc
end_is d bytes front (Some x) false next e = ap (λ (spans : List Span). is_end (Some spans)) (sym next.spans)

-- a message has no hash
pub no_hash : (o : Option wire.Span) (m : Message) → ((span : wire.Span) → o ≡ Some span → ⊥) → option_map span_of o ≡ hash_span m → None ≡ hash_span m
no_hash None m none e = e
no_hash (Some span) m none e = absurd (none span refl)

-- ---- the nodes of a list

split : (xs : List code.Node) (i : ℕ) (x : code.Node) (spans : List Span) → i < length xs → x ≡ get_or xs i x
    → without (map node_of (drop i xs)) spans ≡ option_and_then (λ rest. without (map node_of (drop (i + 1) xs)) rest) (without (node_of x ∷ []) spans)
split xs i x spans lt is =
    ap (λ (ys : List code.Node). without (map node_of ys) spans) (drop-cons xs i x lt)
    ∙ ap (λ (y : code.Node). without (node_of y ∷ map node_of (drop (suc i) xs)) spans) (sym is)
    ∙ without_append (node_of x ∷ []) (map node_of (drop (suc i) xs)) spans
    ∙ ap (λ (n : ℕ). option_and_then (λ rest. without (map node_of (drop n xs)) rest) (without (node_of x ∷ []) spans)) (sym (add-one i))

pub nodes_more : (xs : List code.Node) (i : ℕ) (x : code.Node) (spans more : List Span) (o : Option (List Span)) → i < length xs → x ≡ get_or xs i x
    → o ≡ without (map node_of (drop i xs)) spans → Some more ≡ without (node_of x ∷ []) spans → o ≡ without (map node_of (drop (i + 1) xs)) more
nodes_more xs i x spans more o lt is so_far here =
    so_far ∙ split xs i x spans lt is
    ∙ ap (λ (p : Option (List Span)). option_and_then (λ rest. without (map node_of (drop (i + 1) xs)) rest) p) (sym here)

pub nodes_none : (xs : List code.Node) (i : ℕ) (x : code.Node) (spans : List Span) (o : Option (List Span)) → i < length xs → x ≡ get_or xs i x
    → o ≡ without (map node_of (drop i xs)) spans → None ≡ without (node_of x ∷ []) spans → None ≡ o
nodes_none xs i x spans o lt is so_far here =
    ap (λ (p : Option (List Span)). option_and_then (λ rest. without (map node_of (drop (i + 1) xs)) rest) p) here
    ∙ sym (so_far ∙ split xs i x spans lt is)

-- ---- the peaks

pub first_none : (chunks few : ℕ) (told : Node → Bool) (spans : List Span) (b : Bool) → few ≡ chunks → b ≡ list_all told (peaks few) → b ≡ true
    → Some spans ≡ without (first_of chunks told) spans
first_none chunks few told spans b same is all =
    ap (λ (x : Bool). without (cond x [] (peaks few)) spans) (sym all ∙ is) ∙ ap (λ (n : ℕ). without (first_of n told) spans) same

pub first_all : (chunks few : ℕ) (told : Node → Bool) (spans : List Span) (b : Bool) → few ≡ chunks → b ≡ list_all told (peaks few) → b ≡ false
    → without (peaks few) spans ≡ without (first_of chunks told) spans
first_all chunks few told spans b same is some =
    ap (λ (x : Bool). without (cond x [] (peaks few)) spans) (sym some ∙ is) ∙ ap (λ (n : ℕ). without (first_of n told) spans) same
