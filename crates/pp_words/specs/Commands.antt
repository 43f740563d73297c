-- What the words of a command line may ask for.
use Rattle.std.specs.Prelude.{ℕ, List}
use Rattle.pp_terms.specs.command.Order.{Order}
use Rattle.pp_terms.specs.format.Descriptor.{Descriptor}
use Rattle.pp_terms.specs.format.Traffic.{Address}
use Rattle.pp_targets.specs.Target.{Target}

-- A command. A store is named by a file's name; chunk sizes are in bytes, turns are waits for a datagram, and a window
-- counts chunks.
pub data Command : Type 0 where
  Import : (store : List ℕ) (chunk : ℕ) → Command
  Seed : (store : List ℕ) (target : Target) (listen : Address) (turns : ℕ) → Command
  Fetch : (store : List ℕ) (target : Target) (listen : Address) (turns : ℕ) (order : Order) (peers : List Address) → Command
  Check : (store : List ℕ) (target : Target) → Command
  Export : (store : List ℕ) (target : Target) → Command
  Upgrade : (store : List ℕ) (descriptor : Descriptor) → Command
  Replay : Command
  Rehearse : (number : ℕ) → Command
  Play : (store : List ℕ) (descriptor : Descriptor) (listen : Address) (turns window : ℕ) (peers : List Address) → Command
  Record : (peer life : ℕ) → Command
  Audit : Command
