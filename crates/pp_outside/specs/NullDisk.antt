-- A disk that keeps only its length: it tells nothing and promises nothing.
use Rattle.std.specs.Prelude.{ℕ, false, []}
use Rattle.pp_terms.specs.disk.Disk.{DiskState, fresh}
use Rattle.pp_outside.specs.declared.null_disk.NullDisk.{NullDisk}

abbrev pub state_of : NullDisk → DiskState
state_of disk = record { tells = false; honest = false; history = fresh []; faults = 0; hard = 0 }

-- the greatest end of a write so far
abbrev pub end_of : NullDisk → ℕ
end_of disk = disk.end
