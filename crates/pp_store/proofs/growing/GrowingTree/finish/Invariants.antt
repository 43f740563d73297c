use Rattle.std.proofs.Common.{◌≡◌, ℕ, ◌-◌, List}
use Rattle.pp_store.specs.Behind.{KeepsBehind}
use Rattle.pp_store.specs.Growing.{IsPartial, IsTail, IsTailing, chunks_in}
use Rattle.pp_store.proofs.growing.GrowingTree.finish.Given as goal

abbrev pub invariant-loop-step : goal.invariant-loop-step
invariant-loop-step g l = record {
  at : IsTail l.self.count l.layer l.offset l.step;
  keeps : KeepsBehind (g.D.Disk.state l.initial.disk) (g.D.Disk.state l.disk);
  tailing : (content : List ℕ) → l.self.count ≡ chunks_in l.chunk content → IsPartial l.chunk content l.self.count l.self.peaks (g.D.Disk.state l.initial.disk)
      → IsTailing l.chunk content l.self.count l.layer l.offset l.self.peaks l.last (g.D.Disk.state l.disk);
}

abbrev pub decreases-loop-step : goal.decreases-loop-step
decreases-loop-step g l = l.self.count - l.step
