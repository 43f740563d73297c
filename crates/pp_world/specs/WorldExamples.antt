-- A small world, and small peers that keep what they announced.
use Rattle.std.specs.Prelude.{◌≡◌, ℕ, Bool, true, false, Some, List, [], ◌∷◌, ◌++◌, length, replicate, codes}
use Rattle.pp_terms.specs.Example.{abc, store_of_abc}
use Rattle.pp_terms.specs.command.Order.{Sequential, Rarest}
use Rattle.pp_terms.specs.command.Report.{line}
use Rattle.pp_terms.specs.disk.Calls.{Did, Wrote, Refused, Synced, Crashed, Calls}
use Rattle.pp_terms.specs.disk.Image.{known}
use Rattle.pp_terms.specs.disk.Store.{header, open_gate}
use Rattle.pp_terms.specs.format.Traffic.{Record, Received, Quiet, Sent}
use Rattle.pp_terms.specs.tree.Book.{LookUp}
use Rattle.pp_world.specs.Change.{while_running, with_loss, with_repeat, with_delay, with_forged, with_crash}
use Rattle.pp_world.specs.Move.{Wait, Make, moves_of_step}
use Rattle.pp_world.specs.Opening.{FailsToOpen}
use Rattle.pp_world.specs.Orders.{no_orders}
use Rattle.pp_world.specs.Outcome.{is_held, PeerEnd, IsEndOf, peer_line}
use Rattle.pp_world.specs.Queue.{queue_with, queue_after}
use Rattle.pp_world.specs.Schedule.{Fetches, Turn, Forge, Crash, Stop, Start, Once, Run, Schedule}
use Rattle.pp_world.specs.Session.{Mark, Session}
use Rattle.pp_world.specs.Survival.{AnnouncedSurvives}
use Rattle.pp_world.specs.Turn.{TakesTurn}
use Rattle.pp_world.specs.World.{Queued, PeerState, World, address_of}
use Rattle.pp_world.specs.Worlds.{swarm_of, empty_disk, idle, AreWorlds}

-- ---- the small world

-- Two peers fetch from each other. Two datagrams are forged for peer 0; both peers take a turn; peer 0 crashes, and
-- peer 1 is stopped and started again.
abbrev pub small : Schedule
small = record {
  chunk = 256;
  size = 3;
  shift = 9;
  roles = Fetches Sequential (1 ∷ []) ∷ Fetches Rarest (0 ∷ []) ∷ [];
  steps = Once (Forge 0 1 (0xab ∷ [])) ∷ Once (Forge 0 1 (0xcd ∷ [])) ∷ Run 1 20000
      ∷ Once (Crash 0 2) ∷ Once (Stop 1) ∷ Once (Start 1) ∷ [];
}

-- a book as an opening of an empty file leaves it, and one that a peer has come to
abbrev pub bare : LookUp
bare = known (swarm_of small) []

abbrev pub taught : LookUp
taught k j = Some (7 ∷ [])

abbrev pub mark : (calls records : ℕ) → Mark
mark calls records = record { calls = calls; faults = 0; hard = 0; records = records }

-- a session over an empty file, with a book, marks of turns and records
abbrev pub session_with : LookUp → List Mark → List Record → Session
session_with book turns traffic = record {
  began = mark 0 0;
  opened = mark 0 0;
  turns = turns;
  traffic = traffic;
  refused = 0;
  book = book;
}

-- a disk that was empty, on which these calls were made
abbrev pub disk_with : List Did → Calls
disk_with calls = record { image = []; done = calls; attached_at = 0 }

-- a running peer
abbrev pub peer_with : Calls → List Queued → List Session → PeerState
peer_with disk queue sessions = record {
  disk = disk;
  faults = 0;
  hard = 0;
  orders = no_orders;
  is_running = true;
  queue = queue;
  sessions = sessions;
}

abbrev pub queued : (sender : ℕ) → List ℕ → Queued
queued sender bytes = record { sender = address_of sender; bytes = bytes }

-- a peer right after it opened
abbrev pub opened_peer : PeerState
opened_peer = peer_with empty_disk [] (session_with bare [] [] ∷ [])

-- peer 0 while two datagrams wait for it
abbrev pub forged_0 : PeerState
forged_0 = peer_with empty_disk (queued 1 (0xab ∷ []) ∷ queued 1 (0xcd ∷ []) ∷ []) (session_with bare [] [] ∷ [])

-- the calls of peer 0 in its turn, the last of which is pending at its end
abbrev pub written : List Did
written = Wrote 0 (1 ∷ 2 ∷ []) ∷ Synced ∷ Wrote 1 (7 ∷ []) ∷ []

-- what peer 0 sends in its turn, at the disk's moment 1
abbrev pub greeting : List ℕ
greeting = 0 ∷ 0 ∷ 0 ∷ 0 ∷ []

abbrev pub second : List ℕ
second = 0 ∷ 0 ∷ 0 ∷ 1 ∷ []

-- the records of peer 0: the first datagram came, and two went
abbrev pub records_0 : List Record
records_0 =
    Sent 1 (address_of 1) second ∷ Sent 1 (address_of 1) greeting ∷ Received 20000 (address_of 1) (0xab ∷ []) ∷ []

abbrev pub turned_0 : PeerState
turned_0 = peer_with (disk_with written) (queued 1 (0xcd ∷ []) ∷ []) (session_with bare (mark 3 3 ∷ []) records_0 ∷ [])

-- peer 1 while both wait for it, and after its own turn, by which its book is another
abbrev pub waiting_1 : PeerState
waiting_1 = peer_with empty_disk (queued 0 greeting ∷ queued 0 second ∷ []) (session_with bare [] [] ∷ [])

abbrev pub records_1 : List Record
records_1 = Received 20000 (address_of 0) greeting ∷ []

abbrev pub turned_1 : PeerState
turned_1 = peer_with empty_disk (queued 0 second ∷ []) (session_with taught (mark 0 1 ∷ []) records_1 ∷ [])

-- peer 0 after the crash: the pending write, which has number 0, filled its range
abbrev pub crashed_0 : PeerState
crashed_0 = record turned_0 { disk = disk_with (written ++ Crashed (1 ∷ 0xa5 ∷ []) ∷ []); is_running = false }

-- peer 1 while it is stopped; and opened again with that book: another session, for which the datagram still waits
abbrev pub stopped_1 : PeerState
stopped_1 = record turned_1 { is_running = false }

abbrev pub restarted_with : LookUp → PeerState
restarted_with book = record turned_1 { sessions = session_with book [] [] ∷ turned_1.sessions }

abbrev pub world : (clock : ℕ) → PeerState → PeerState → World
world clock x y = record { clock = clock; peers = x ∷ y ∷ [] }

-- all worlds of the small schedule, the newest first
abbrev pub small_worlds : List World
small_worlds =
    world 20000 crashed_0 (restarted_with bare)
    ∷ world 20000 crashed_0 stopped_1
    ∷ world 20000 crashed_0 turned_1
    ∷ world 20000 turned_0 turned_1
    ∷ world 20000 turned_0 waiting_1
    ∷ world 20000 forged_0 opened_peer
    ∷ world 0 forged_0 opened_peer
    ∷ world 0 (record opened_peer { queue = queued 1 (0xab ∷ []) ∷ [] }) opened_peer
    ∷ world 0 opened_peer opened_peer
    ∷ world 0 opened_peer (idle empty_disk)
    ∷ world 0 (idle empty_disk) (idle empty_disk)
    ∷ []

abbrev pub SmallWorlds : Type 0
SmallWorlds = AreWorlds small small_worlds

-- ---- single acts

-- a write of this peer is to fail; and the peer after a turn in which it did
abbrev pub failing : PeerState
failing = record opened_peer { orders = record no_orders { write = true } }

abbrev pub failed : PeerState
failed = record (peer_with (disk_with (Refused 0 (1 ∷ []) ∷ [])) []
    (session_with bare (record { calls = 1; faults = 1; hard = 1; records = 1 } ∷ []) (Quiet 20000 ∷ []) ∷ []))
    { faults = 1; hard = 1; is_running = false }

-- a sync of this peer is to fail; and the peer after a turn in which it made none
abbrev pub ordered : PeerState
ordered = record opened_peer { orders = record no_orders { sync = true } }

abbrev pub ordered_after : PeerState
ordered_after = record ordered { sessions = session_with bare (mark 0 1 ∷ []) (Quiet 20000 ∷ []) ∷ [] }

-- a wait of this peer is to fail; and the peer after a turn in which it did
abbrev pub deafened : PeerState
deafened = record forged_0 { orders = record no_orders { receive = true } }

abbrev pub deafened_after : PeerState
deafened_after = record forged_0 { sessions = record (session_with bare (mark 0 0 ∷ []) []) { refused = 1 } ∷ [] }

-- peers that were never started: with a file of two bytes, and with a sync that is to fail
abbrev pub with_file : PeerState
with_file = idle (disk_with (Wrote 0 (1 ∷ 2 ∷ []) ∷ []))

abbrev pub failing_sync : PeerState
failing_sync = record (idle empty_disk) { orders = record no_orders { sync = true } }

-- a queue of so many datagrams
abbrev pub many : ℕ → List Queued
many count = replicate count (queued 0 second)

pub record ActExamples : Type 0 where
  -- rounds are unfolded into waits and turns
  pub rounds : moves_of_step 2 (Run 2 5)
      ≡ Wait 5 ∷ Make (Turn 0) ∷ Make (Turn 1) ∷ Wait 5 ∷ Make (Turn 0) ∷ Make (Turn 1) ∷ []
  -- of two datagrams that wait the first is lost, comes once more behind the second, or comes behind it alone; a
  -- forged one comes last
  pub lost : (with_loss forged_0).queue ≡ queued 1 (0xcd ∷ []) ∷ []
  pub repeated : (with_repeat forged_0).queue ≡ queued 1 (0xab ∷ []) ∷ queued 1 (0xcd ∷ []) ∷ queued 1 (0xab ∷ []) ∷ []
  pub delayed : (with_delay forged_0).queue ≡ queued 1 (0xcd ∷ []) ∷ queued 1 (0xab ∷ []) ∷ []
  pub forged : (with_forged 0 second forged_0).queue
      ≡ queued 1 (0xab ∷ []) ∷ queued 1 (0xcd ∷ []) ∷ queued 0 second ∷ []
  -- nothing happens to the queue of a peer that doesn't run, but a crash happens to its disk
  pub stays : while_running with_loss stopped_1 ≡ stopped_1
  pub crashes : (with_crash 0 (record turned_0 { is_running = false })).disk
      ≡ disk_with (written ++ Crashed (1 ∷ 2 ∷ []) ∷ [])
  -- what is sent to an address joins that queue alone, the oldest first
  pub joined : queue_after (address_of 0) (address_of 1) records_0 [] ≡ queued 0 greeting ∷ queued 0 second ∷ []
  pub elsewhere : queue_after (address_of 0) (address_of 2) records_0 [] ≡ []
  -- one that is sent while 1,024 wait is lost
  pub fits : length (queue_with (address_of 0) (address_of 1) (Sent 1 (address_of 1) second) (many 1023)) ≡ 1024
  pub overflows : length (queue_with (address_of 0) (address_of 1) (Sent 1 (address_of 1) second) (many 1024)) ≡ 1024
  -- an order that isn't used stands on, and isn't counted
  pub unused : TakesTurn 20000 ordered (Quiet 20000 ∷ []) ordered_after
  -- a wait was refused in a turn: no datagram is taken
  pub waits : TakesTurn 20000 deafened [] deafened_after
  -- a write was refused in a turn: the peer stops, and sends nothing
  pub stops : TakesTurn 20000 failing (Quiet 20000 ∷ []) failed
  -- an opening is refused, since the file is another's, or since a sync failed
  pub another : FailsToOpen (swarm_of small) with_file with_file
  pub unsynced : FailsToOpen (swarm_of small) failing_sync (record (idle empty_disk) { faults = 1; hard = 1 })

-- ---- peers that announced chunk 0

-- HAVE of chunk 0, for channel 7
abbrev pub have : List ℕ
have = 0 ∷ 0 ∷ 0 ∷ 7 ∷ 3 ∷ 0 ∷ 0 ∷ 0 ∷ 0 ∷ 0 ∷ 0 ∷ 0 ∷ 0 ∷ []

abbrev pub announcing : (moment : ℕ) → Session
announcing moment = session_with bare [] (Sent moment (address_of 1) have ∷ [])

-- a disk on which the store of "abc" was from the first on, and what was done on it since
abbrev pub stored : List Did → Calls
stored calls = record { image = store_of_abc; done = calls; attached_at = 0 }

-- a peer that announced the chunk, opened again with a sync, and announced the chunk once more
abbrev pub keeper : PeerState
keeper = peer_with (stored (Synced ∷ [])) [] (record (announcing 1) { opened = mark 1 0 } ∷ announcing 0 ∷ [])

abbrev pub end_of : PeerState → (lives announced : ℕ) → List Bool → PeerEnd
end_of x lives announced held = record { state = x; lives = lives; announced = announced; held = held }

pub record KeptExamples : Type 0 where
  -- the chunk stands in every image
  pub survives : AnnouncedSurvives abc (world 0 keeper (idle empty_disk))
  -- two openings; one chunk, announced twice and counted once, which is held
  pub numbers : IsEndOf abc (end_of keeper 2 1 (true ∷ []))
  -- no chunk is held behind a closed gate, nor where its bytes are others
  pub closed : is_held abc (header abc ++ codes "abc" ++ replicate 1086 0) 0 ≡ false
  pub other : is_held abc (header abc ++ codes "abd" ++ replicate 1085 0 ++ open_gate) 0 ≡ false
  pub said : peer_line 0 (end_of keeper 2 1 (true ∷ [])) (record { first = 0; last = 0 } ∷ [])
      ≡ line (codes "peer 0 lives 2 announced 1 held 0-0")
