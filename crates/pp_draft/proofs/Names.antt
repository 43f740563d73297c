-- The names of a range: the nodes of its cover are the method's.
use Rattle.std.proofs.Common.{◌≡◌, ◌⊎◌, inl, inr, ℕ, zero, suc, ◌*◌, ◌+◌, ◌^◌, ◌<◌, ◌≤◌, List, [], ◌∷◌, map, get_or, length, refl, sym, ap, subst, arith}
use Rattle.std.specs.List.{AllByRecursion}
use Rattle.std.proofs.lemmas.Nat.{pow_pos}
use Rattle.pp_terms.specs.tree.Tree as terms
use Rattle.pp_terms.specs.tree.Range.{Span, leaves_of, IsTiling, IsLeastCover}
use Rattle.pp_terms.specs.format.Descriptor.{Method, Bin32, Range32, Bin64, Range64}
use Rattle.pp_terms.specs.format.Messages.{Message, IsNamed, IsBinSpan}
use Rattle.pp_wire.specs.Put.{IsSpan, CanPut, NamesChunks}
use Rattle.pp_tree.specs.declared.node.Node.{Node}
use Rattle.pp_tree.specs.Node.{node_of}
use Rattle.pp_draft.specs.declared.ranges.Kind.{Kind}
use Rattle.pp_draft.specs.declared.ranges.Kind.TheVariants.{Ack, Have, Request, Cancel}
use Rattle.pp_draft.specs.Notes.{NamesRange}
use Rattle.pp_draft.specs.Puts.{message_for, message_at, IsLow}

-- A span that the method names, and whose numbers it reaches.
pub record HasName (method : Method) (s : Span) : Type 0 where
  pub named : IsNamed method s
  pub span : IsSpan method s

record IsNode (s : Span) : Type 0 where
  bin : IsBinSpan s
  order : s.first ≤ s.last

node_span : (n : terms.Node) → IsNode (leaves_of n)
node_span n =
    let power = pow_pos n.layer in
    let more : (n.offset + 1) * 2 ^ n.layer ≡ n.offset * 2 ^ n.layer + 2 ^ n.layer = omega arith in
    record { bin = record { layer = n.layer; offset = n.offset; begins = refl; ends = omega arith }; order = omega arith }

pub node_name : (method : Method) (n : terms.Node) → (leaves_of n).last < 2 ^ 20 → HasName method (leaves_of n)
node_name Bin32 n low = let s = node_span n in let order = s.order in record { named = (s.bin, omega arith); span = (order, omega arith) }
node_name Range32 n low = let s = node_span n in let order = s.order in record { named = (order, omega arith); span = (order, omega arith) }
node_name Bin64 n low = let s = node_span n in let order = s.order in record { named = (s.bin, omega arith); span = order }
node_name Range64 n low = let s = node_span n in let order = s.order in record { named = (order, omega arith); span = order }

pub can_put : (method : Method) (kind : Kind) (s : Span) → HasName method s → CanPut method (message_for kind s)
can_put method (Ack delay) s h = h.span
can_put method Have s h = h.span
can_put method Request s h = h.span
can_put method Cancel s h = h.span

pub names_chunks : (method : Method) (kind : Kind) (s : Span) → HasName method s → NamesChunks method (message_for kind s)
names_chunks method (Ack delay) s h = h.named
names_chunks method Have s h = h.named
names_chunks method Request s h = h.named
names_chunks method Cancel s h = h.named

-- ---- the nodes of a cover

tiling_order : (low end : ℕ) (nodes : List terms.Node) → IsTiling low end nodes → low ≤ end
tiling_order low end [] h = omega (arith, h)
tiling_order low end (n ∷ nodes) h = let more = tiling_order (low + 2 ^ n.layer) end nodes h.1 in omega arith

tiling_low : (low end : ℕ) (nodes : List Node) → end ≤ 2 ^ 20 → IsTiling low end (map node_of nodes) → AllByRecursion IsLow nodes
tiling_low low end [] most h = tt
tiling_low low end (n ∷ nodes) most h =
    let power = pow_pos n.layer in
    let more : (n.offset + 1) * 2 ^ n.layer ≡ n.offset * 2 ^ n.layer + 2 ^ n.layer = omega arith in
    let order = tiling_order (low + 2 ^ n.layer) end (map node_of nodes) h.1 in
    (omega (arith, h.0), tiling_low (low + 2 ^ n.layer) end nodes most h.1)

pub cover_low : (range : Span) (nodes : List Node) → range.last < 2 ^ 20 → IsLeastCover range (map node_of nodes) → AllByRecursion IsLow nodes
cover_low range nodes low cover = tiling_low range.first (range.last + 1) nodes (omega arith) cover.tiles

pub low_at : (nodes : List Node) (k : ℕ) (x : Node) → AllByRecursion IsLow nodes → k < length nodes → IsLow (get_or nodes k x)
low_at [] k x all lt = absurd (omega arith)
low_at (n ∷ nodes) zero x all lt = all.0
low_at (n ∷ nodes) (suc k) x all lt = low_at nodes k x all.1 (omega arith)

cover_map : (kind : Kind) (nodes : List Node) → map (message_at kind) nodes ≡ map (message_for kind) (map leaves_of (map node_of nodes))
cover_map kind [] = refl
cover_map kind (n ∷ nodes) = ap (λ (ms : List Message). message_at kind n ∷ ms) (cover_map kind nodes)

-- ---- a range by its ends

pub range_name : (method : Method) (s : Span) → (method ≡ Range32) ⊎ (method ≡ Range64) → s.first ≤ s.last → s.last < 2 ^ 20 → HasName method s
range_name method s (inl e) order low = subst (λ (m : Method). HasName m s) (sym e) (record { named = (order, omega arith); span = (order, omega arith) })
range_name method s (inr e) order low = subst (λ (m : Method). HasName m s) (sym e) (record { named = (order, omega arith); span = order })

pub whole_names : (method : Method) (range : Span) (make : Span → Message) → (method ≡ Range32) ⊎ (method ≡ Range64) → NamesRange method range make (make range ∷ [])
whole_names method range make (inl e) = subst (λ (m : Method). NamesRange m range make (make range ∷ [])) (sym e) (record { spans = range ∷ []; names = refl; messages = refl })
whole_names method range make (inr e) = subst (λ (m : Method). NamesRange m range make (make range ∷ [])) (sym e) (record { spans = range ∷ []; names = refl; messages = refl })

pub cover_names : (method : Method) (range : Span) (kind : Kind) (nodes : List Node) → (method ≡ Bin32) ⊎ (method ≡ Bin64) → IsLeastCover range (map node_of nodes)
    → NamesRange method range (message_for kind) (map (message_at kind) nodes)
cover_names method range kind nodes (inl e) cover = subst (λ (m : Method). NamesRange m range (message_for kind) (map (message_at kind) nodes)) (sym e)
    (record { spans = map leaves_of (map node_of nodes); names = record { nodes = map node_of nodes; cover = cover; leaves = refl }; messages = cover_map kind nodes })
cover_names method range kind nodes (inr e) cover = subst (λ (m : Method). NamesRange m range (message_for kind) (map (message_at kind) nodes)) (sym e)
    (record { spans = map leaves_of (map node_of nodes); names = record { nodes = map node_of nodes; cover = cover; leaves = refl }; messages = cover_map kind nodes })
