use Rattle.std.proofs.Common.{◌≡◌, ℕ, suc, true, ◌<◌}
use Rattle.pp_terms.specs.tree.Tree.{above}
use Rattle.pp_terms.specs.format.Descriptor.{chunks_of}
use Rattle.pp_tree.specs.Book.{entry}
use Rattle.pp_store.specs.Pairs.{has_pair, IsUnfilled, PutsPairs}
use Rattle.pp_store.specs.Writes.{unfilled_pairs, Wrote}
use Rattle.pp_store.proofs.pairing.put_unfilled.Given as goal

abbrev pub invariant-loop-layer : goal.invariant-loop-layer
invariant-loop-layer g l = record {
  puts : PutsPairs l.descriptor (entry l.book) l.initial.pairs l.pairs (g.D.Disk.state l.initial.disk) (g.D.Disk.state l.disk);
  wrote : Wrote l.descriptor (entry l.book) (unfilled_pairs (chunks_of l.descriptor) l.layer) l.initial.pairs l.pairs (g.D.Disk.state l.initial.disk) (g.D.Disk.state l.disk);
  stored : (k : ℕ) → k < l.layer → IsUnfilled l.descriptor k → has_pair l.pairs k (above (suc k) (chunks_of l.descriptor)) ≡ true;
}
