-- Why the commands on a store that is there, `check`, `export` and `seed`, end otherwise than done, and what is said of it.
use Rattle.std.specs.Prelude.{◌≡◌, ℕ, Bool, true, false, List}
use Rattle.pp_terms.specs.Count.{HasRisen}
use Rattle.pp_terms.specs.format.Descriptor.{Descriptor}
use Rattle.pp_terms.specs.disk.Disk.{IsKnown}
use Rattle.pp_terms.specs.command.Stream.{SinkState}
use Rattle.pp_terms.specs.command.Report.{disk_fault_line, link_fault_line, not_a_store_line}
use Rattle.pp_node.specs.Looking.{IsOf, IsOther, IsRefused}
use Rattle.pp_node.specs.Outside.{Outside}
use Rattle.pp_node.specs.Text.{Says}
use Rattle.pp_node.specs.declared.status.Status.{Status}
use Rattle.pp_node.specs.declared.status.Status.TheVariants.{NotAStore, DiskFault, LinkFault, Memory}

-- a command that says its faults says this line; another one, whose sink is for a content, gives it nothing
abbrev pub Tells : Bool → List ℕ → SinkState → SinkState → Type 0
Tells true text old new = Says text old new
Tells false text old new = new ≡ old

-- The file is another's: its first byte that differs from the header was said, with what was wanted.
pub record IsNotAStore (says : Bool) (d : Descriptor) (old new : Outside) : Type 0 where
  pub at : ℕ
  pub found : ℕ
  pub want : ℕ
  pub other : IsOther d at found want old.disk new.disk
  pub said : Tells says (not_a_store_line at found want) old.sink new.sink

pub record IsDiskFault (says : Bool) (d : Descriptor) (old new : Outside) : Type 0 where
  pub refused : IsRefused d old.disk new.disk
  pub said : Tells says disk_fault_line old.sink new.sink

-- The link refused to listen.
pub record IsLinkFault (says : Bool) (d : Descriptor) (old new : Outside) : Type 0 where
  pub risen : HasRisen old.link.faults new.link.faults
  pub begins : IsKnown old.disk → IsOf d new.disk.history.found
  pub said : Tells says link_fault_line old.sink new.sink

pub record IsMemory (d : Descriptor) (old new : Outside) : Type 0 where
  pub begins : IsKnown old.disk → IsOf d new.disk.history.found
  pub silent : new.sink ≡ old.sink

abbrev pub Faults : Bool → Status → Descriptor → Outside → Outside → Type 0
Faults says NotAStore d old new = IsNotAStore says d old new
Faults says DiskFault d old new = IsDiskFault says d old new
Faults says LinkFault d old new = IsLinkFault says d old new
Faults says Memory d old new = IsMemory d old new
Faults says _ d old new = ⊥
