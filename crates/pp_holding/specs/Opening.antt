-- A holding that was just opened, and why it couldn't be.
use Rattle.std.specs.Prelude.{◌≡◌, true, false, replicate}
use Rattle.pp_terms.specs.Count.{HasRisen}
use Rattle.pp_terms.specs.format.Descriptor.{Descriptor, chunks_of}
use Rattle.pp_terms.specs.disk.Disk.{DiskState}
use Rattle.pp_scan.specs.declared.scanning.ScanFault.{ScanFault}
use Rattle.pp_scan.specs.declared.scanning.ScanFault.TheVariants.{NotAStore, Disk, Memory}
use Rattle.pp_scan.specs.Scan.{IsOther}
use Rattle.pp_holding.specs.Queue.{empty_queue}
use Rattle.pp_holding.specs.Holding.{HoldingState}

-- Its store may be written to; nothing is pending, and nobody is to be acknowledged.
pub record HasBegun (d : Descriptor) (s : HoldingState) : Type 0 where
  pub descriptor : s.store.descriptor ≡ d
  pub live : s.store.live ≡ true
  pub none : s.store.pending ≡ replicate (chunks_of d) false
  pub empty : s.queue ≡ empty_queue

-- The file is another's; or the disk refused a call; or there was no memory, and nothing was done.
abbrev pub IsOpenFault : Descriptor → DiskState → DiskState → ScanFault → Type 0
IsOpenFault d old new (NotAStore at found want) = IsOther d at found want old
IsOpenFault d old new Disk = HasRisen old.faults new.faults
IsOpenFault d old new Memory = new ≡ old
