-- A disk that has the store of a content, as that of a peer of a world that was never started.
use Rattle.std.specs.Prelude.{◌≡◌, ℕ, List, []}
use Rattle.pp_terms.specs.disk.Calls.{Calls}
use Rattle.pp_terms.specs.disk.Disk.{History}
use Rattle.pp_terms.specs.disk.Store.{IsStoreOf}
use Rattle.pp_terms.specs.format.Descriptor.{Descriptor}
use Rattle.pp_outside.specs.declared.memory_disk.MemoryDisk.{MemoryDisk}
use Rattle.pp_watch.specs.Shown.{ShowsDisk}
use Rattle.pp_world.specs.Worlds.{IsFilled, idle}

-- What reads give is the content's whole store, and nothing is pending.
pub record HasStore (d : Descriptor) (content : List ℕ) (h : History) : Type 0 where
  pub settled : h.epoch ≡ record { durable = h.reads; pending = [] }
  pub store : IsStoreOf d content h.reads

-- An import filled an empty disk by these calls.
pub record ShowsFilled (d : Descriptor) (content : List ℕ) (disk : MemoryDisk) : Type 0 where
  pub calls : Calls
  pub filled : IsFilled d content calls
  pub shows : ShowsDisk 0 disk (idle calls)
