use Rattle.std.proofs.Common.{◌≡◌, ℕ, ◌*◌, ◌≤◌, Some, List, length, drop}
use Rattle.pp_terms.specs.disk.Disk.{IsKnown}
use Rattle.pp_store.specs.Behind.{KeepsBehind}
use Rattle.pp_store.specs.Import.{TakesAtMost}
use Rattle.pp_store.specs.Old.{old_slot_size}
use Rattle.pp_store.proofs.Copies.{IsCopying}
use Rattle.pp_store.proofs.copying.copy_slots.Given as goal

abbrev pub invariant-slots : goal.invariant-slots
invariant-slots g l = record {
  keeps : KeepsBehind (g.D.Disk.state l.initial.disk) (g.D.Disk.state l.disk);
  later : (g.S.Source.state l.initial.source).faults ≤ (g.S.Source.state l.source).faults;
  takes : TakesAtMost (l.slot * old_slot_size l.chunk) (g.S.Source.state l.initial.source) (g.S.Source.state l.source);
  left : IsKnown (g.D.Disk.state l.initial.disk) → (told : List ℕ) → (g.S.Source.state l.initial.source).left ≡ Some told
      → (g.S.Source.state l.source).left ≡ Some (drop (l.slot * old_slot_size l.chunk) told);
  copied : IsKnown (g.D.Disk.state l.initial.disk) → length (g.D.Disk.state l.initial.disk).history.reads ≤ 64
      → IsCopying l.chunk l.slot (g.S.Source.state l.initial.source).left (g.D.Disk.state l.disk).history.reads;
}
