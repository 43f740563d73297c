-- What each move does to a world. Seven of the nine acts are functions on one peer; a turn and an opening are
-- relations.
use Rattle.std.specs.Prelude.{◌≡◌, ◌⊎◌, ℕ, zero, suc, ◌+◌, false, if◌then◌else◌, Some, List, [], ◌∷◌, ◌++◌, take, drop, slice_get, slice_set, MatchBool}
use Rattle.pp_terms.specs.disk.Calls.{Crashed, history_of, crash_image}
use Rattle.pp_terms.specs.format.Descriptor.{Descriptor}
use Rattle.pp_terms.specs.format.Traffic.{Record}
use Rattle.pp_world.specs.Move.{Move, Wait, Make}
use Rattle.pp_world.specs.Opening.{Opens, FailsToOpen}
use Rattle.pp_world.specs.Orders.{with_order}
use Rattle.pp_world.specs.Queue.{peers_after}
use Rattle.pp_world.specs.Schedule.{Device, Act, Turn, Lose, Repeat, Later, Forge, Fail, Crash, Stop, Start}
use Rattle.pp_world.specs.Turn.{TakesTurn}
use Rattle.pp_world.specs.World.{PeerState, World, address_of}

-- ---- the acts that are functions

-- A change that happens to a running peer alone.
abbrev pub while_running : (PeerState → PeerState) → PeerState → PeerState
while_running change x = if x.is_running then change x else x

-- the oldest datagram that waits is lost; comes once more, behind all others; comes later, behind all others
abbrev pub with_loss : PeerState → PeerState
with_loss x = record x { queue = drop 1 x.queue }

abbrev pub with_repeat : PeerState → PeerState
with_repeat x = record x { queue = x.queue ++ take 1 x.queue }

abbrev pub with_delay : PeerState → PeerState
with_delay x = record x { queue = drop 1 x.queue ++ take 1 x.queue }

-- a datagram waits that says to come from peer number `sender`
abbrev pub with_forged : (sender : ℕ) → (bytes : List ℕ) → PeerState → PeerState
with_forged sender bytes x = record x { queue = x.queue ++ record { sender = address_of sender; bytes = bytes } ∷ [] }

abbrev pub with_failing : Device → PeerState → PeerState
with_failing call x = record x { orders = with_order x.orders call }

-- the peer stops; its disk keeps what is pending
abbrev pub with_stop : PeerState → PeerState
with_stop x = record x { is_running = false }

-- The peer stops, and its disk is left with the image that the pick makes. So is the disk of a peer that doesn't run.
abbrev pub with_crash : (pick : ℕ) → PeerState → PeerState
with_crash pick x = record x {
  disk = record x.disk { done = x.disk.done ++ Crashed (crash_image pick (history_of x.disk).epoch) ∷ [] };
  is_running = false;
}

-- ---- moves

-- one peer changes
abbrev pub with_peer : ℕ → (PeerState → PeerState) → List PeerState → List PeerState
with_peer p change [] = []
with_peer zero change (x ∷ xs) = change x ∷ xs
with_peer (suc p) change (x ∷ xs) = x ∷ with_peer p change xs

abbrev pub with_change : ℕ → (PeerState → PeerState) → World → World
with_change p change w = record w { peers = with_peer p change w.peers }

-- Peer p changed by a relation, and what it sent joined the queues.
pub record Changes (Change : PeerState → List Record → PeerState → Type 0) (p : ℕ) (old new : World) : Type 0 where
  pub before : PeerState
  pub after : PeerState
  pub added : List Record
  pub here : slice_get old.peers p ≡ Some before
  pub changed : Change before added after
  pub is : new ≡ record old { peers = peers_after p added (slice_set old.peers p after) }

abbrev pub Stays : PeerState → List Record → PeerState → Type 0
Stays old added new = (new ≡ old) × (added ≡ [])

-- A peer that runs takes a turn, and one that doesn't run may open its store.
abbrev pub MayTakeTurn : (clock : ℕ) → PeerState → List Record → PeerState → Type 0
MayTakeTurn clock old added new = MatchBool old.is_running (TakesTurn clock old added new) (Stays old added new)

abbrev pub MayOpen : Descriptor → PeerState → List Record → PeerState → Type 0
MayOpen d old added new =
    MatchBool old.is_running (Stays old added new) ((Opens d old new ⊎ FailsToOpen d old new) × (added ≡ []))

abbrev pub Acts : Descriptor → Act → (old new : World) → Type 0
Acts d (Turn p) old new = Changes (MayTakeTurn old.clock) p old new
Acts d (Lose p) old new = new ≡ with_change p (while_running with_loss) old
Acts d (Repeat p) old new = new ≡ with_change p (while_running with_repeat) old
Acts d (Later p) old new = new ≡ with_change p (while_running with_delay) old
Acts d (Forge p sender bytes) old new = new ≡ with_change p (while_running (with_forged sender bytes)) old
Acts d (Fail p call) old new = new ≡ with_change p (while_running (with_failing call)) old
Acts d (Crash p pick) old new = new ≡ with_change p (with_crash pick) old
Acts d (Stop p) old new = new ≡ with_change p with_stop old
Acts d (Start p) old new = Changes (MayOpen d) p old new

abbrev pub Moves : Descriptor → Move → (old new : World) → Type 0
Moves d (Wait gain) old new = new ≡ record old { clock = old.clock + gain }
Moves d (Make act) old new = Acts d act old new
