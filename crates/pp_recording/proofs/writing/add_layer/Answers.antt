use Rattle.std.proofs.Common.{◌∙◌, ap, sym, List, ◌++◌}
use Rattle.pp_tree.specs.Book.{entry}
use Rattle.pp_recording.specs.Spelling.{KnownNode}
use Rattle.pp_recording.specs.Recording.{nodes_text}
use Rattle.pp_recording.proofs.NodeTexts.{nodes_added, first_nodes-more}
use Rattle.pp_recording.proofs.writing.add_layer.Goals as goal

pub loop-offset-preserved : goal.loop-offset-preserved
loop-offset-preserved c =
    nodes_added _ _ _ _ _ c.loop-offset.invariant c.in_ok-add_known.ensures
    ∙ ap (λ (ns : List KnownNode). c.args.text.now.items ++ nodes_text ns)
    (sym (first_nodes-more (entry c.args.book.now) c.args.layer c.loop-offset.offset))
