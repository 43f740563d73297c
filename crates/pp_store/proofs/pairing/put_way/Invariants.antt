use Rattle.std.proofs.Common.{◌≡◌, ℕ, suc, true, ◌<◌}
use Rattle.pp_terms.specs.tree.Tree.{above}
use Rattle.pp_tree.specs.Book.{entry}
use Rattle.pp_store.specs.Pairs.{has_pair, PutsPairs}
use Rattle.pp_store.specs.Writes.{way_pairs, Wrote}
use Rattle.pp_store.proofs.pairing.put_way.Given as goal

abbrev pub invariant-loop-layer : goal.invariant-loop-layer
invariant-loop-layer g l = record {
  puts : PutsPairs l.descriptor (entry l.book) l.initial.pairs l.pairs (g.D.Disk.state l.initial.disk) (g.D.Disk.state l.disk);
  wrote : Wrote l.descriptor (entry l.book) (way_pairs l.i l.layer) l.initial.pairs l.pairs (g.D.Disk.state l.initial.disk) (g.D.Disk.state l.disk);
  stored : (k : ℕ) → k < l.layer → has_pair l.pairs k (above (suc k) l.i) ≡ true;
}
