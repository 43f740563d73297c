-- The worlds of a schedule: one before all moves, and one after each.
use Rattle.std.specs.Prelude.{◌≡◌, ℕ, false, List, [], ◌∷◌, reverse}
use Rattle.pp_terms.specs.disk.Calls.{Calls, history_of}
use Rattle.pp_terms.specs.disk.Store.{IsStoreOf}
use Rattle.pp_terms.specs.format.Descriptor.{Descriptor, Range32, descriptor_of}
use Rattle.pp_world.specs.Change.{Moves}
use Rattle.pp_world.specs.Move.{Move, moves_of}
use Rattle.pp_world.specs.Orders.{no_orders}
use Rattle.pp_world.specs.Schedule.{Role, Seeds, Fetches, Schedule, content_of}
use Rattle.pp_world.specs.World.{PeerState, World}

-- the swarm of a schedule's content
abbrev pub swarm_of : Schedule → Descriptor
swarm_of s = descriptor_of (content_of s) s.chunk Range32

-- a disk on which nothing was done
abbrev pub empty_disk : Calls
empty_disk = record { image = []; done = []; attached_at = 0 }

-- An import filled an empty disk: what is on it is the content's whole store, and nothing is pending.
pub record IsFilled (d : Descriptor) (content : List ℕ) (disk : Calls) : Type 0 where
  pub was : disk.image ≡ []
  pub unattached : disk.attached_at ≡ 0
  pub settled : (history_of disk).epoch ≡ record { durable = (history_of disk).reads; pending = [] }
  pub store : IsStoreOf d content (history_of disk).reads

-- A peer that seeds begins with the content, and one that fetches with nothing.
abbrev pub HasDisk : Descriptor → (content : List ℕ) → Role → Calls → Type 0
HasDisk d content Seeds disk = IsFilled d content disk
HasDisk d content (Fetches order dialled) disk = disk ≡ empty_disk

-- a peer that was never started
abbrev pub idle : Calls → PeerState
idle disk = record {
  disk = disk;
  faults = 0;
  hard = 0;
  orders = no_orders;
  is_running = false;
  queue = [];
  sessions = [];
}

pub record IsNew (d : Descriptor) (content : List ℕ) (role : Role) (x : PeerState) : Type 0 where
  pub disk : HasDisk d content role x.disk
  pub is : x ≡ idle x.disk

abbrev pub AreNew : Descriptor → (content : List ℕ) → List Role → List PeerState → Type 0
AreNew d content [] [] = Unit {0}
AreNew d content (role ∷ roles) (x ∷ xs) = IsNew d content role x × AreNew d content roles xs
AreNew d content [] (x ∷ xs) = ⊥
AreNew d content (role ∷ roles) [] = ⊥

pub record IsFirst (s : Schedule) (w : World) : Type 0 where
  pub clock : w.clock ≡ 0
  pub peers : AreNew (swarm_of s) (content_of s) s.roles w.peers

-- These moves made these worlds, both with the newest first.
abbrev pub Happened : Schedule → List Move → List World → Type 0
Happened s [] [] = ⊥
Happened s [] (w ∷ []) = IsFirst s w
Happened s [] (w ∷ v ∷ before) = ⊥
Happened s (move ∷ moves) [] = ⊥
Happened s (move ∷ moves) (w ∷ []) = ⊥
Happened s (move ∷ moves) (new ∷ old ∷ before) = Moves (swarm_of s) move old new × Happened s moves (old ∷ before)

-- These are worlds of the schedule, the newest first.
abbrev pub AreWorlds : Schedule → List World → Type 0
AreWorlds s worlds = Happened s (reverse (moves_of s)) worlds
