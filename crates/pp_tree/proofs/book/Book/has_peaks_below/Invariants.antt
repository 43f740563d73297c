use Rattle.std.proofs.Common.{◌≡◌, true}
use Rattle.pp_terms.specs.tree.Book as books
use Rattle.pp_tree.specs.Book.{entry}
use Rattle.pp_tree.proofs.book.Book.has_peaks_below.Given as goal

abbrev pub invariant-loop-layer : goal.invariant-loop-layer
invariant-loop-layer l = books.has_peaks_below (entry l.self) l.chunks l.layer ≡ true
