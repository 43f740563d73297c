-- What a disk's file is found to be.
use Rattle.std.specs.Prelude.{◌≡◌, ℕ, ◌<◌, Ok, Err, List, [], length, Result}
use Rattle.pp_terms.specs.Count.{HasRisen}
use Rattle.pp_terms.specs.format.Descriptor.{Descriptor}
use Rattle.pp_terms.specs.disk.Disk.{DiskState, IsKnown}
use Rattle.pp_terms.specs.disk.Store.{HasHeader}
use Rattle.pp_scan.specs.Scan.{IsOther}
use Rattle.pp_store.specs.declared.findings.Probe.{Probe}
use Rattle.pp_store.specs.declared.findings.Probe.TheVariants.{Fresh, Ours}
use Rattle.pp_store.specs.declared.findings.ProbeFault.{ProbeFault}
use Rattle.pp_store.specs.declared.findings.ProbeFault.TheVariants.{NotAStore, Disk}

-- a file that isn't empty and begins with the header, zeros past its end
pub record IsOurs (d : Descriptor) (reads : List ℕ) : Type 0 where
  pub some : 0 < length reads
  pub begins : HasHeader d reads

abbrev pub HasProbed : Descriptor → DiskState → DiskState → Result Probe ProbeFault → Type 0
HasProbed d disk disk' (Ok Fresh) = IsKnown disk → disk.history.reads ≡ []
HasProbed d disk disk' (Ok Ours) = IsKnown disk → IsOurs d disk.history.reads
HasProbed d disk disk' (Err (NotAStore at found want)) = IsOther d at found want disk
HasProbed d disk disk' (Err Disk) = HasRisen disk.faults disk'.faults
