-- A peer opens its store, by which a session begins; or it can't.
use Rattle.std.specs.Prelude.{◌≡◌, ◌⊎◌, ℕ, ◌<◌, true, false, List, [], ◌∷◌, length}
use Rattle.pp_terms.specs.disk.Image.{known}
use Rattle.pp_terms.specs.disk.Store.{HasHeader}
use Rattle.pp_terms.specs.format.Descriptor.{Descriptor}
use Rattle.pp_terms.specs.tree.Book.{LookUp}
use Rattle.pp_world.specs.DiskCalls.{MakesCalls}
use Rattle.pp_world.specs.Session.{Session}
use Rattle.pp_world.specs.World.{PeerState, mark_of, reads_of}

-- The file isn't empty, and doesn't begin with the descriptor's header, zeros past its end.
pub record IsAnothers (d : Descriptor) (reads : List ℕ) : Type 0 where
  pub some : 0 < length reads
  pub differs : HasHeader d reads → ⊥

-- An opening begins with an empty book, and learns exactly the digests that what reads gave lets be known.
abbrev pub IsLearned : Descriptor → List ℕ → LookUp → Type 0
IsLearned d reads book = (k j : ℕ) → book k j ≡ known d reads k j

-- the session that an opening begins
abbrev pub new_session : (old new : PeerState) → LookUp → Session
new_session old new book = record {
  began = mark_of old 0;
  opened = mark_of new 0;
  turns = [];
  traffic = [];
  refused = 0;
  book = book;
}

-- The peer opened its store: an empty file, or one that begins with the header. Its link is new, and nothing of it is
-- ordered to fail. What waits for the peer goes on waiting.
pub record Opens (d : Descriptor) (old new : PeerState) : Type 0 where
  pub calls : MakesCalls old new
  pub begins : IsAnothers d (reads_of old) → ⊥
  pub unordered : (new.orders.send ≡ false) × (new.orders.receive ≡ false)
  pub book : LookUp
  pub learned : IsLearned d (reads_of old) book
  pub is : new.sessions ≡ new_session old new book ∷ old.sessions
  pub runs : new.is_running ≡ true
  pub queue : new.queue ≡ old.queue

-- The opening was refused, since the file is another's or a call of the disk failed. That begins no session.
pub record FailsToOpen (d : Descriptor) (old new : PeerState) : Type 0 where
  pub calls : MakesCalls old new
  pub cause : IsAnothers d (reads_of old) ⊎ (old.faults < new.faults)
  pub same : new.sessions ≡ old.sessions
  pub stopped : new.is_running ≡ false
  pub queue : new.queue ≡ old.queue
