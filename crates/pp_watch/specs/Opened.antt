-- The peer of a world after an opening over a disk that was watched.
use Rattle.std.specs.Prelude.{true, false, List, ◌∷◌}
use Rattle.pp_terms.specs.disk.Calls.{Did}
use Rattle.pp_terms.specs.tree.Book.{LookUp}
use Rattle.pp_outside.specs.declared.memory_disk.MemoryDisk.{MemoryDisk}
use Rattle.pp_world.specs.Opening.{new_session}
use Rattle.pp_world.specs.World.{PeerState}
use Rattle.pp_watch.specs.Shown.{with_calls}

-- all but the sessions
abbrev pub with_opening : List Did → MemoryDisk → PeerState → PeerState
with_opening calls disk x = record (with_calls calls disk x) {
  orders = record (with_calls calls disk x).orders { send = false; receive = false };
  is_running = true;
}

-- with a session that knows these digests
abbrev pub after_opening : List Did → MemoryDisk → LookUp → PeerState → PeerState
after_opening calls disk book x =
    let y = with_opening calls disk x in record y { sessions = new_session x y book ∷ x.sessions }

-- after one that was refused
abbrev pub after_refusal : List Did → MemoryDisk → PeerState → PeerState
after_refusal calls disk x = record (with_calls calls disk x) { is_running = false }
