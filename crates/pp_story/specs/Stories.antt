-- What is kept of a channel's story, and the story that it stands for.
use Rattle.std.specs.Prelude.{◌≡◌, ℕ, ◌<◌, Bool, ◌||◌, List}
use Rattle.pp_terms.specs.tree.Tree.{Node}
use Rattle.pp_terms.specs.format.Descriptor.{Descriptor, chunks_of}
use Rattle.pp_terms.specs.format.Messages.{Message}
use Rattle.pp_traffic.specs.Story.{Line}
use Rattle.pp_traffic.specs.Asking.{choked_by, choked, asked_by, asked_after, asked}
use Rattle.pp_traffic.specs.Hashes.{told_by, is_told}
use Rattle.pp_traffic.specs.Meter.{Meter, heard_by, said_by, meter}
use Rattle.pp_tree.specs.Bits.{bit_of}
use Rattle.pp_plan.specs.Told.{ToldNodes, knows}

-- Whether a choke stands; of each chunk whether it is asked for, 64 bits to a word; what the peer has told; and the window
-- with what flies.
pub record StoryState : Type 0 where
  pub is_choked : Bool
  pub requests : List ℕ
  pub told : ToldNodes
  pub window : Meter

-- What is kept is what a story of a swarm's channel comes to.
pub record StandsFor (kept : StoryState) (d : Descriptor) (s : List Line) : Type 0 where
  pub chunks : kept.told.chunks ≡ chunks_of d
  pub chokes : kept.is_choked ≡ choked s
  pub asks : (i : ℕ) → i < chunks_of d → bit_of kept.requests i ≡ asked i s
  pub tells : (n : Node) → knows kept.told n ≡ is_told (chunks_of d) s n
  pub meters : kept.window ≡ meter d.chunk s

-- A message came: what it changes.
pub record Hears (now : ℕ) (m : Message) (old new : StoryState) : Type 0 where
  pub chunks : new.told.chunks ≡ old.told.chunks
  pub chokes : new.is_choked ≡ old.is_choked
  pub asks : (i : ℕ) → i < old.told.chunks → bit_of new.requests i ≡ asked_by i old.is_choked m (bit_of old.requests i)
  pub tells : (n : Node) → knows new.told n ≡ (told_by old.told.chunks n m || knows old.told n)
  pub meters : new.window ≡ heard_by now m old.window

-- A message was sent.
pub record Says (now : ℕ) (m : Message) (old new : StoryState) : Type 0 where
  pub chunks : new.told.chunks ≡ old.told.chunks
  pub chokes : new.is_choked ≡ choked_by m old.is_choked
  pub asks : (i : ℕ) → i < old.told.chunks → bit_of new.requests i ≡ asked_after i m (bit_of old.requests i)
  pub tells : (n : Node) → knows new.told n ≡ knows old.told n
  pub meters : new.window ≡ said_by now m old.window
