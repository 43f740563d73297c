use Rattle.std.proofs.Common.{◌≡◌, ℕ, suc, ◌+◌, ◌-◌, ◌≤◌, [], ◌∷◌, sym, ◌∙◌, ap, arith}
use Rattle.pp_terms.specs.format.Descriptor.{chunks_of, height_of}
use Rattle.pp_terms.specs.tree.Bins.{parent_of}
use Rattle.pp_terms.specs.tree.Tree.{Node, is_peak}
use Rattle.pp_traffic.specs.Laws.{uncles_from}
use Rattle.pp_promises.specs.Datagrams.{is_read_told}
use Rattle.pp_tree.specs.Node.{node_of}
use Rattle.pp_recorded.specs.Entries.{past, life_of}
use Rattle.pp_recorded.specs.Plans.{spans_at, without}
use Rattle.pp_recorded.proofs.HashSpans.{stop_peak, past_told, past_untold, past_none}
use Rattle.pp_recorded.proofs.hashes.+without_uncles.Goals as goal

-- the layers that are left, one more than above
left_is : (height k h : ℕ) → h ≡ height → k ≤ h → height + 1 - k ≡ suc (height - k)
left_is height k h e le = omega (arith, e, le)

above_is : (height k up : ℕ) → up ≡ k + 1 → height + 1 - up ≡ height - k
above_is height k up e = omega (arith, e)

pub returns-then-is_peak-clause-spans : goal.returns-then-is_peak-clause-spans
returns-then-is_peak-clause-spans t c =
    let told = is_read_told c.args.descriptor.now (life_of c.args.life) (past c.args.entries.now) in
    stop_peak (height_of c.args.descriptor.now + 1 - c.args.node.layer) (height_of c.args.descriptor.now - c.args.node.layer) (chunks_of c.args.descriptor.now) told
    (node_of c.args.node) (spans_at c.args.descriptor.now c.args.bytes.now c.args.front)
    (left_is (height_of c.args.descriptor.now) c.args.node.layer c.height.result c.height.ensures.height c.if-node-height.false)
    (sym c.is_read_told.ensures ∙ c.if-is_read_told.false)
    (ap (λ (n : ℕ). is_peak n (node_of c.args.node)) (sym c.chunks.ensures.chunks) ∙ sym c.is_peak.ensures ∙ c.if-is_peak.true)

pub returns-then-is_read_told-2-clause-spans : goal.returns-then-is_read_told-2-clause-spans
returns-then-is_read_told-2-clause-spans t c =
    let told = is_read_told c.args.descriptor.now (life_of c.args.life) (past c.args.entries.now) in
    let spans = spans_at c.args.descriptor.now c.args.bytes.now c.args.front in
    let up : c.parent.result.layer ≡ c.args.node.layer + 1 = ap (λ (n : Node). n.layer) c.parent.ensures.parent in
    past_told (height_of c.args.descriptor.now + 1 - c.args.node.layer) (height_of c.args.descriptor.now - c.args.node.layer) (chunks_of c.args.descriptor.now) told
    (node_of c.args.node) spans (spans_at c.args.descriptor.now c.args.bytes.now c.in-Some.more)
    (left_is (height_of c.args.descriptor.now) c.args.node.layer c.height.result c.height.ensures.height c.if-node-height.false)
    (sym c.is_read_told.ensures ∙ c.if-is_read_told.false)
    (ap (λ (n : ℕ). is_peak n (node_of c.args.node)) (sym c.chunks.ensures.chunks) ∙ sym c.is_peak.ensures ∙ c.if-is_peak.false)
    (ap (λ (n : Node). told n) (sym c.sibling-sibling.ensures.sibling) ∙ sym c.is_read_told-in-Some.ensures ∙ c.if-is_read_told-2.true)
    (c.in-Some.ensures.spans
    ∙ ap (λ (n : Node). without (uncles_from (height_of c.args.descriptor.now + 1 - c.parent.result.layer) (chunks_of c.args.descriptor.now) told n) spans) c.parent.ensures.parent
    ∙ ap (λ (l : ℕ). without (uncles_from l (chunks_of c.args.descriptor.now) told (parent_of (node_of c.args.node))) spans) (above_is (height_of c.args.descriptor.now) c.args.node.layer c.parent.result.layer up))

pub returns-else-is_read_told-2-clause-spans : goal.returns-else-is_read_told-2-clause-spans
returns-else-is_read_told-2-clause-spans t c =
    let told = is_read_told c.args.descriptor.now (life_of c.args.life) (past c.args.entries.now) in
    let spans = spans_at c.args.descriptor.now c.args.bytes.now c.args.front in
    let more = spans_at c.args.descriptor.now c.args.bytes.now c.in-Some.more in
    let up : c.parent.result.layer ≡ c.args.node.layer + 1 = ap (λ (n : Node). n.layer) c.parent.ensures.parent in
    past_untold (height_of c.args.descriptor.now + 1 - c.args.node.layer) (height_of c.args.descriptor.now - c.args.node.layer) (chunks_of c.args.descriptor.now) told
    (node_of c.args.node) spans more _
    (left_is (height_of c.args.descriptor.now) c.args.node.layer c.height.result c.height.ensures.height c.if-node-height.false)
    (sym c.is_read_told.ensures ∙ c.if-is_read_told.false)
    (ap (λ (n : ℕ). is_peak n (node_of c.args.node)) (sym c.chunks.ensures.chunks) ∙ sym c.is_peak.ensures ∙ c.if-is_peak.false)
    (ap (λ (n : Node). told n) (sym c.sibling-sibling.ensures.sibling) ∙ sym c.is_read_told-in-Some.ensures ∙ c.if-is_read_told-2.false)
    (c.in-Some.ensures.spans
    ∙ ap (λ (n : Node). without (uncles_from (height_of c.args.descriptor.now + 1 - c.parent.result.layer) (chunks_of c.args.descriptor.now) told n) spans) c.parent.ensures.parent
    ∙ ap (λ (l : ℕ). without (uncles_from l (chunks_of c.args.descriptor.now) told (parent_of (node_of c.args.node))) spans) (above_is (height_of c.args.descriptor.now) c.args.node.layer c.parent.result.layer up))
    (c.without_node.ensures.spans ∙ ap (λ (n : Node). without (n ∷ []) more) c.sibling-sibling.ensures.sibling)

pub returns-in-None-clause-spans : goal.returns-in-None-clause-spans
returns-in-None-clause-spans t c =
    let told = is_read_told c.args.descriptor.now (life_of c.args.life) (past c.args.entries.now) in
    let spans = spans_at c.args.descriptor.now c.args.bytes.now c.args.front in
    let up : c.parent.result.layer ≡ c.args.node.layer + 1 = ap (λ (n : Node). n.layer) c.parent.ensures.parent in
    past_none (height_of c.args.descriptor.now + 1 - c.args.node.layer) (height_of c.args.descriptor.now - c.args.node.layer) (chunks_of c.args.descriptor.now) told
    (node_of c.args.node) spans
    (left_is (height_of c.args.descriptor.now) c.args.node.layer c.height.result c.height.ensures.height c.if-node-height.false)
    (sym c.is_read_told.ensures ∙ c.if-is_read_told.false)
    (ap (λ (n : ℕ). is_peak n (node_of c.args.node)) (sym c.chunks.ensures.chunks) ∙ sym c.is_peak.ensures ∙ c.if-is_peak.false)
    (c.in-None.ensures.spans
    ∙ ap (λ (n : Node). without (uncles_from (height_of c.args.descriptor.now + 1 - c.parent.result.layer) (chunks_of c.args.descriptor.now) told n) spans) c.parent.ensures.parent
    ∙ ap (λ (l : ℕ). without (uncles_from l (chunks_of c.args.descriptor.now) told (parent_of (node_of c.args.node))) spans) (above_is (height_of c.args.descriptor.now) c.args.node.layer c.parent.result.layer up))
