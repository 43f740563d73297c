use Rattle.std.proofs.Common.{◌≡◌, ◌++◌}
use Rattle.pp_tree.specs.Book.{entry}
use Rattle.pp_recording.specs.Recording.{nodes_text, lowest_nodes}
use Rattle.pp_recording.proofs.writing.add_nodes.Given as goal

abbrev pub invariant-loop-layer : goal.invariant-loop-layer
invariant-loop-layer l = l.text.items ≡ l.initial.text.items ++ nodes_text (lowest_nodes (entry l.book) l.height l.layer)
