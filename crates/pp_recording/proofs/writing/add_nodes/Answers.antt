use Rattle.std.proofs.Common.{◌≡◌, ◌∙◌, ap, suc, refl, ◌++◌, ℕ, arith}
use Rattle.pp_tree.specs.Book.{entry}
use Rattle.pp_recording.specs.Recording.{nodes_text, lowest_nodes}
use Rattle.pp_recording.proofs.NodeTexts.{layer_added}
use Rattle.pp_recording.proofs.writing.add_nodes.Goals as goal

pub loop-layer-preserved : goal.loop-layer-preserved
loop-layer-preserved c =
    layer_added (entry c.args.book.now) c.loop-layer.text.items c.add_layer.new.text.items c.args.text.now.items
    c.args.height c.loop-layer.layer _ refl c.requires c.loop-layer.invariant c.in_ok-add_layer.ensures

pub returns : goal.returns
returns c =
    let end : c.loop-layer.layer ≡ suc c.args.height = omega arith in
    c.loop-layer.invariant
    ∙ ap (λ (k : ℕ). c.args.text.now.items ++ nodes_text (lowest_nodes (entry c.args.book.now) c.args.height k)) end
