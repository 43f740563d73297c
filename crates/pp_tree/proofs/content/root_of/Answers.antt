use Rattle.std.proofs.Common.{◌≡◌, ℕ, suc, ◌+◌, length, List, [], sym, subst, ap, ◌∙◌, arith}
use Rattle.pp_terms.specs.tree.Content.{chunk_count, IsContentSize}
use Rattle.pp_terms.specs.tree.Tree.{leaf_of, height, node}
use Rattle.pp_tree.proofs.Sizes.{chunk_count_range}
use Rattle.pp_tree.proofs.Layers.{IsLayer, layer_of_leaves, layer_above, layer_root, default_in}
use Rattle.pp_tree.proofs.content.root_of.Goals as goal

pub loop-init : goal.loop-init
loop-init c =
    layer_of_leaves (leaf_of c.args.content.now c.args.chunk) _ c.in_ok-layer.layer.items c.in_ok-layer.ensures.len c.in_ok-layer.ensures.each

pub loop-preserved : goal.loop-preserved
loop-preserved c =
    let old = subst (λ (xs : List (List ℕ)). IsLayer (leaf_of c.args.content.now c.args.chunk)
    (chunk_count (length c.args.content.now) c.args.chunk) c.loop.counter xs) (sym c.deref.ensures.value) c.loop.invariant in
    let up : c.loop.counter + 1 ≡ suc c.loop.counter = omega arith in
    layer_above (leaf_of c.args.content.now c.args.chunk) _ c.loop.counter _ c.deref.result.now c.in_ok-layer-2.layer.items up old
    c.in_ok-layer-2.ensures.len c.in_ok-layer-2.ensures.each

pub index-requires : goal.index-requires
index-requires c =
    let size : IsContentSize c.args.chunk (length c.args.content.now) = record { some = c.requires.some; within = c.requires.most } in
    let range = chunk_count_range (length c.args.content.now) c.args.chunk c.requires.size size in
    let root = layer_root (leaf_of c.args.content.now c.args.chunk) _ c.loop.counter c.loop.layer.items range.0 c.loop.invariant in
    omega (arith, root.0, c.loop.layer.ok)

pub returns : goal.returns
returns c =
    let size : IsContentSize c.args.chunk (length c.args.content.now) = record { some = c.requires.some; within = c.requires.most } in
    let range = chunk_count_range (length c.args.content.now) c.args.chunk c.requires.size size in
    let root = layer_root (leaf_of c.args.content.now c.args.chunk) _ c.loop.counter c.loop.layer.items range.0 c.loop.invariant in
    let count : c.len.result ≡ chunk_count (length c.args.content.now) c.args.chunk =
    omega (arith, c.len.ensures, c.in_ok-layer.ensures.len, c.in_ok-layer.layer.ok) in
    let done : c.loop.counter ≡ c.height-end.result = omega arith in
    let top : c.loop.counter ≡ height (chunk_count (length c.args.content.now) c.args.chunk) =
    done ∙ c.height-end.ensures.height ∙ ap (λ n. height n) count in
    c.index.ensures ∙ default_in c.loop.layer.items 0 _ [] root.0 ∙ root.1
    ∙ ap (λ k. node (leaf_of c.args.content.now c.args.chunk) (chunk_count (length c.args.content.now) c.args.chunk) k 0) top
