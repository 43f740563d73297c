use Rattle.std.proofs.Common.{◌≡◌}
use Rattle.pp_terms.specs.disk.Disk.{IsKnown}
use Rattle.pp_scan.specs.Look.{KeepsAll}
use Rattle.pp_store.specs.Runs.{AreRead}
use Rattle.pp_store.proofs.runs.read_each.Given as goal

abbrev pub invariant-loop-k : goal.invariant-loop-k
invariant-loop-k g l = record {
  read : IsKnown (g.D.Disk.state l.initial.disk) → AreRead l.descriptor l.first (g.D.Disk.state l.initial.disk).history.reads l.out l.k;
  keeps : KeepsAll (g.D.Disk.state l.initial.disk) (g.D.Disk.state l.disk);
  hard : (g.D.Disk.state l.disk).hard ≡ (g.D.Disk.state l.initial.disk).hard;
}
