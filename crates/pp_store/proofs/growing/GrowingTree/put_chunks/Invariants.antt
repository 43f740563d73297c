use Rattle.std.proofs.Common.{◌≡◌, ℕ, ◌+◌, ◌-◌, ◌*◌, ◌≤◌, List, length}
use Rattle.pp_terms.specs.tree.Content.{chunk_count}
use Rattle.pp_store.specs.Behind.{KeepsBehind}
use Rattle.pp_store.specs.Growing.{IsPartial, IsNext}
use Rattle.pp_store.proofs.growing.GrowingTree.put_chunks.Given as goal

abbrev pub invariant-loop-start : goal.invariant-loop-start
invariant-loop-start g l = record {
  start_is : l.start ≡ l.i * l.chunk;
  count_is : l.self.count ≡ l.initial.self.count + l.i;
  counted : l.i ≤ chunk_count (length l.pieces) l.chunk;
  keeps : KeepsBehind (g.D.Disk.state l.initial.disk) (g.D.Disk.state l.disk);
  partial : (content : List ℕ) → IsNext l.chunk content l.initial.self.count l.pieces
      → IsPartial l.chunk content l.initial.self.count l.initial.self.peaks (g.D.Disk.state l.initial.disk)
      → IsPartial l.chunk content l.self.count l.self.peaks (g.D.Disk.state l.disk);
}

abbrev pub decreases-loop-start : goal.decreases-loop-start
decreases-loop-start g l = length l.pieces - l.start
