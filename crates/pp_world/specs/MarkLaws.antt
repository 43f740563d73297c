-- What was at a mark stays, and where a disk was attached changes nothing of what stands on it.
use Rattle.std.specs.Prelude.{◌≡◌, ℕ, ◌≤◌, List, ◌++◌, length}
use Rattle.pp_terms.specs.disk.Calls.{Did, Calls}
use Rattle.pp_terms.specs.format.Descriptor.{Descriptor}
use Rattle.pp_traffic.specs.Keeping.{StandsSince}
use Rattle.pp_world.specs.World.{disk_after}

pub record MarkLaws : Type 0 where
  -- a chunk stands since a moment, wherever the disk was attached
  pub elsewhere : (d : Descriptor) (disk : Calls) (attached other calls moment i : ℕ)
      → StandsSince d (disk_after attached calls disk) moment i → StandsSince d (disk_after other calls disk) moment i
  -- more calls change nothing of what was after the first ones
  pub stays : (disk : Calls) (more : List Did) (attached calls : ℕ) → calls ≤ length disk.done
      → disk_after attached calls (record disk { done = disk.done ++ more }) ≡ disk_after attached calls disk
