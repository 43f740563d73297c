use Rattle.std.proofs.Common.{◌≡◌, length}
use Rattle.pp_terms.specs.format.Descriptor.{height_of}
use Rattle.pp_tree.specs.Book.{entry}
use Rattle.pp_store.proofs.Marking.{IsMarking}
use Rattle.pp_store.proofs.pairing.find_pairs.Given as goal

abbrev pub invariant-loop-slot : goal.invariant-loop-slot
invariant-loop-slot l = record {
  size : length l.pairs ≡ length l.initial.pairs;
  marking : IsMarking (height_of l.descriptor) (entry l.book) l.pairs l.slot;
}
