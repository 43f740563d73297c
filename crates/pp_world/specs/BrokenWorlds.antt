-- Moves that no peer makes, and worlds in which a promise is broken: each is refused. Where a promise has premises,
-- the broken world meets them all.
use Rattle.std.specs.Prelude.{ℕ, true, false, Some, None, List, [], ◌∷◌, ◌++◌, codes, replicate}
use Rattle.pp_terms.specs.Example.{abc}
use Rattle.pp_terms.specs.disk.Calls.{Crashed}
use Rattle.pp_terms.specs.format.Descriptor.{Descriptor, Range32}
use Rattle.pp_terms.specs.format.Traffic.{Record, Received, Quiet, Sent}
use Rattle.pp_terms.specs.tree.Book.{LookUp}
use Rattle.pp_traffic.specs.Life.{Life}
use Rattle.pp_world.specs.Agreement.{AllBooksAgree}
use Rattle.pp_world.specs.Change.{Acts}
use Rattle.pp_world.specs.Knowing.{PeersKnowTold}
use Rattle.pp_world.specs.Opening.{Opens, FailsToOpen}
use Rattle.pp_world.specs.Outcome.{IsEndOf}
use Rattle.pp_world.specs.Schedule.{Crash}
use Rattle.pp_world.specs.Shipment.{DatagramsAreAtomic}
use Rattle.pp_world.specs.Survival.{AnnouncedSurvives}
use Rattle.pp_world.specs.Turn.{TakesTurn}
use Rattle.pp_world.specs.World.{PeerState, World, address_of}
use Rattle.pp_world.specs.Worlds.{swarm_of, empty_disk, idle}
use Rattle.pp_world.specs.WorldExamples.{small, bare, taught, mark, session_with, disk_with, peer_with, opened_peer, forged_0, greeting, failing, failed, with_file, written, turned_0, turned_1, crashed_0, stopped_1, restarted_with, world, announcing, stored, keeper, end_of}

-- ---- moves

-- a peer that stopped in a turn in which nothing failed
abbrev pub gave_up : PeerState
gave_up = record opened_peer {
  is_running = false;
  sessions = session_with bare (mark 0 1 ∷ []) (Quiet 20000 ∷ []) ∷ [];
}

-- a peer that stopped in a turn in which a write failed, and sent a datagram then
abbrev pub sent_last : PeerState
sent_last = record failed {
  sessions = session_with bare (record { calls = 1; faults = 1; hard = 1; records = 2 } ∷ [])
      (Sent 0 (address_of 1) greeting ∷ Quiet 20000 ∷ []) ∷ [];
}

-- peer 0 after a crash that did the pending write
abbrev pub unscathed_0 : PeerState
unscathed_0 = record crashed_0 { disk = disk_with (written ++ Crashed (1 ∷ 7 ∷ []) ∷ []) }

-- ---- a chunk that isn't stored

-- three bytes, of some root
abbrev pub three : Descriptor
three = record { root = replicate 32 7; chunk = 1024; size = 3; method = Range32 }

abbrev pub number : ℕ → List ℕ
number n = 0 ∷ 0 ∷ 0 ∷ n ∷ []

-- Peer 1 dials peer 0 as 9, is answered as 7, and asks for chunk 0.
abbrev pub hello : (source : ℕ) → List ℕ
hello source = 0 ∷ number source ++ 2 ∷ 0 ∷ 32 ∷ replicate 32 7 ++ 255 ∷ []

abbrev pub dial : List ℕ
dial = number 0 ++ hello 9

abbrev pub reply : List ℕ
reply = number 9 ++ hello 7

abbrev pub ask : List ℕ
ask = number 7 ++ 8 ∷ number 0 ++ number 0

-- the digest of the one peak, and the chunk
abbrev pub chunk : List ℕ
chunk = number 9 ++ 4 ∷ number 0 ++ number 0 ++ replicate 32 5
    ++ 1 ∷ number 0 ++ number 0 ++ number 0 ++ number 0 ++ codes "abc"

abbrev pub sender_past : List Record
sender_past = Received 2 (address_of 1) ask ∷ Sent 0 (address_of 1) reply ∷ Received 1 (address_of 1) dial ∷ []

abbrev pub receiver_past : List Record
receiver_past = Sent 0 (address_of 0) ask ∷ Received 1 (address_of 0) reply ∷ Sent 0 (address_of 0) dial ∷ []

abbrev pub sender_life : Life
sender_life = record { address = address_of 1; local = 7; remote = 9; is_dialled = false; opening = 0 }

abbrev pub receiver_life : Life
receiver_life = record { address = address_of 0; local = 9; remote = 7; is_dialled = true; opening = 0 }

-- an empty book
abbrev pub nothing : LookUp
nothing k j = None

abbrev pub sender : PeerState
sender = peer_with empty_disk [] (session_with nothing [] (Sent 0 (address_of 1) chunk ∷ sender_past) ∷ [])

abbrev pub receiver : (added : List Record) → PeerState
receiver added = peer_with empty_disk [] (session_with nothing [] (added ++ receiver_past) ∷ [])

-- peer 1 took the chunk in, and its disk stayed empty
abbrev pub lost_chunk : List World
lost_chunk = world 3 sender (receiver (Received 3 (address_of 0) chunk ∷ [])) ∷ world 3 sender (receiver []) ∷ []

-- ---- peers that announced chunk 0

-- one whose disk is empty
abbrev pub announcer : PeerState
announcer = peer_with empty_disk [] (announcing 0 ∷ [])

-- one whose book is empty
abbrev pub unlearned : PeerState
unlearned = peer_with empty_disk [] (record (announcing 0) { book = nothing } ∷ [])

-- one that found nothing when it opened once more
abbrev pub forgetful : PeerState
forgetful = peer_with empty_disk [] (session_with bare [] [] ∷ announcing 0 ∷ [])

-- one that held it to the end of its session; but a crash left nothing
abbrev pub wrecked : PeerState
wrecked = record (peer_with (stored (Crashed [] ∷ [])) [] (announcing 0 ∷ [])) { is_running = false }

-- ---- books

abbrev pub root_is : List ℕ → LookUp
root_is digest k j = Some digest

-- two peers that have two digests of the root
abbrev pub two_roots : World
two_roots = world 0 (peer_with empty_disk [] (session_with (root_is (1 ∷ [])) [] [] ∷ []))
    (peer_with empty_disk [] (session_with (root_is (2 ∷ [])) [] [] ∷ []))

pub record BrokenWorlds : Type 0 where
  -- peer 0 waits in vain though two datagrams are queued for it; or takes the newer one first
  pub deaf : (new : PeerState) → TakesTurn 20000 forged_0 (Quiet 20000 ∷ []) new → ⊥
  pub newest : (new : PeerState) → TakesTurn 20000 forged_0 (Received 20000 (address_of 1) (0xcd ∷ []) ∷ []) new → ⊥
  -- a peer stops, and nothing failed
  pub stops : TakesTurn 20000 opened_peer (Quiet 20000 ∷ []) gave_up → ⊥
  -- a peer stops since a write failed, and still sends a datagram
  pub sends : TakesTurn 20000 failing (Sent 0 (address_of 1) greeting ∷ Quiet 20000 ∷ []) sent_last → ⊥
  -- a file that is another's is opened; an empty one isn't, and nothing failed
  pub another : (new : PeerState) → Opens (swarm_of small) with_file new → ⊥
  pub shut : FailsToOpen three (idle empty_disk) (idle empty_disk) → ⊥
  -- a restart with the book of the session before
  pub remembers : Opens (swarm_of small) stopped_1 (restarted_with taught) → ⊥
  -- a crash with pick 2 leaves what pick 1 does
  pub unscathed : Acts three (Crash 0 2) (world 20000 turned_0 turned_1) (world 20000 unscathed_0 turned_1) → ⊥
  -- a chunk was announced over an empty disk; wasn't found at the next opening; was lost in a crash
  pub announced : AnnouncedSurvives three (world 0 announcer opened_peer) → ⊥
  pub forgotten : AnnouncedSurvives three (world 0 forgetful opened_peer) → ⊥
  pub crashed : AnnouncedSurvives abc (world 0 wrecked opened_peer) → ⊥
  -- a chunk was announced, and the book has no digest of it
  pub untold : PeersKnowTold three (world 0 unlearned opened_peer) → ⊥
  -- a chunk came with its hashes as it was asked for, and isn't stored
  pub lost : DatagramsAreAtomic three (codes "abc") lost_chunk → ⊥
  -- two books have two digests of the root
  pub roots : AllBooksAgree three two_roots → ⊥
  -- an opening too many; a chunk counted twice; a held chunk that isn't said to be
  pub lives : IsEndOf abc (end_of keeper 3 1 (true ∷ [])) → ⊥
  pub counted : IsEndOf abc (end_of keeper 2 2 (true ∷ [])) → ⊥
  pub held : IsEndOf abc (end_of keeper 2 1 (false ∷ [])) → ⊥
