use Rattle.std.proofs.Common.{◌≡◌, ◌++◌}
use Rattle.pp_tree.specs.Book.{entry}
use Rattle.pp_recording.specs.Recording.{nodes_text, first_nodes}
use Rattle.pp_recording.proofs.writing.add_layer.Given as goal

abbrev pub invariant-loop-offset : goal.invariant-loop-offset
invariant-loop-offset l = l.text.items ≡ l.initial.text.items ++ nodes_text (first_nodes (entry l.book) l.layer l.offset)
