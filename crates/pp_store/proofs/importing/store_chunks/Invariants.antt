use Rattle.std.proofs.Common.{◌≡◌, ℕ, ◌≤◌, Some, List}
use Rattle.pp_store.specs.Behind.{KeepsBehind}
use Rattle.pp_store.specs.Growing.{IsPartial}
use Rattle.pp_store.proofs.Ends.{IsRound, HasRead}
use Rattle.pp_store.proofs.importing.store_chunks.Given as goal

abbrev pub invariant-pieces : goal.invariant-pieces
invariant-pieces g l = record {
  round : IsRound l.chunk l.counter l.size l.tree.count;
  reads : HasRead (g.S.Source.state l.initial.source) (g.S.Source.state l.source) l.size;
  later : (g.S.Source.state l.initial.source).faults ≤ (g.S.Source.state l.source).faults;
  keeps : KeepsBehind (g.D.Disk.state l.initial.disk) (g.D.Disk.state l.disk);
  put : (content : List ℕ) → (g.S.Source.state l.initial.source).left ≡ Some content
      → IsPartial l.chunk content 0 l.initial.tree.peaks (g.D.Disk.state l.initial.disk)
      → IsPartial l.chunk content l.tree.count l.tree.peaks (g.D.Disk.state l.disk);
}
