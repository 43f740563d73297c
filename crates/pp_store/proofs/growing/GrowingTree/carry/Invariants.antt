use Rattle.std.proofs.Common.{ℕ, List}
use Rattle.pp_store.specs.Behind.{KeepsBehind}
use Rattle.pp_store.specs.Growing.{IsCarry, IsCarrying}
use Rattle.pp_store.proofs.growing.GrowingTree.carry.Given as goal

abbrev pub invariant-loop-offset : goal.invariant-loop-offset
invariant-loop-offset g l = record {
  at : IsCarry l.self.count l.layer l.offset l.step;
  keeps : KeepsBehind (g.D.Disk.state l.initial.disk) (g.D.Disk.state l.disk);
  carrying : (content : List ℕ) → IsCarrying l.chunk content l.self.count 0 l.self.count l.self.peaks l.digest (g.D.Disk.state l.initial.disk)
      → IsCarrying l.chunk content l.self.count l.layer l.offset l.self.peaks l.last (g.D.Disk.state l.disk);
}

abbrev pub decreases-loop-offset : goal.decreases-loop-offset
decreases-loop-offset g l = l.offset
