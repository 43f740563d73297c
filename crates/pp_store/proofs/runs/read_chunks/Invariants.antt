use Rattle.std.proofs.Common.{◌≡◌, ◌≤◌, ◌-◌}
use Rattle.pp_terms.specs.disk.Disk.{IsKnown}
use Rattle.pp_scan.specs.Look.{KeepsAll}
use Rattle.pp_store.specs.Runs.{AreRead}
use Rattle.pp_store.proofs.runs.read_chunks.Given as goal

abbrev pub invariant-loop-read : goal.invariant-loop-read
invariant-loop-read g l = record {
  most : l.read ≤ l.count;
  read : IsKnown (g.D.Disk.state l.initial.disk) → AreRead l.descriptor l.first (g.D.Disk.state l.initial.disk).history.reads l.out l.read;
  keeps : KeepsAll (g.D.Disk.state l.initial.disk) (g.D.Disk.state l.disk);
  hard : (g.D.Disk.state l.disk).hard ≡ (g.D.Disk.state l.initial.disk).hard;
}

abbrev pub decreases-loop-read : goal.decreases-loop-read
decreases-loop-read g l = l.count - l.read
