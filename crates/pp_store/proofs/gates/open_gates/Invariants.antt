use Rattle.std.proofs.Common.{◌≡◌, ◌-◌, ◌≤◌, length, take}
use Rattle.pp_terms.specs.disk.Disk.{IsKnown}
use Rattle.pp_store.specs.Behind.{KeepsBehind}
use Rattle.pp_store.specs.Gates.{gates_opened}
use Rattle.pp_store.proofs.gates.open_gates.Given as goal

abbrev pub invariant-loop-i : goal.invariant-loop-i
invariant-loop-i g l = record {
  within : l.from ≤ length l.pending;
  keeps : KeepsBehind (g.D.Disk.state l.initial.disk) (g.D.Disk.state l.disk);
  opened : IsKnown (g.D.Disk.state l.initial.disk)
      → (g.D.Disk.state l.disk).history ≡ gates_opened l.descriptor (take l.from l.pending) (g.D.Disk.state l.initial.disk).history;
}

abbrev pub decreases-loop-i : goal.decreases-loop-i
decreases-loop-i g l = length l.pending - l.from
