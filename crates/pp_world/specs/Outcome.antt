-- What a replay answers: the peers at the end of a schedule's worlds, some numbers of each, and what is promised of
-- them all.
use Rattle.std.specs.Prelude.{◌≡◌, ℕ, ◌+◌, ◌<◌, Bool, false, ◌&&◌, ◌||◌, List, [], ◌∷◌, ◌++◌, length, map, codes, decimal, count_by, slice_index_or}
use Rattle.std.specs.List.{AllByRecursion, list_any, range_with_len}
use Rattle.pp_terms.specs.command.Report.{line, ranges_text, AreRanges}
use Rattle.pp_terms.specs.disk.Disk.{DiskState}
use Rattle.pp_terms.specs.disk.Image.{holds, is_open}
use Rattle.pp_terms.specs.format.Descriptor.{Descriptor, chunks_of}
use Rattle.pp_terms.specs.format.Traffic.{Record, Received, Quiet, Sent, LinkState}
use Rattle.pp_terms.specs.tree.Book.{LookUp, IsRooted}
use Rattle.pp_terms.specs.tree.Range.{Span}
use Rattle.pp_traffic.specs.Keeping.{announces}
use Rattle.pp_traffic.specs.Past.{read}
use Rattle.pp_traffic.specs.Serving.{window_of, ServesAll}
use Rattle.pp_world.specs.Agreement.{AllBooksAgree}
use Rattle.pp_world.specs.Knowing.{PeersKnowTold}
use Rattle.pp_world.specs.Shipment.{DatagramsAreAtomic}
use Rattle.pp_world.specs.Schedule.{Role, Schedule, content_of}
use Rattle.pp_world.specs.Session.{Session, last_mark, new_link, link_of}
use Rattle.pp_world.specs.Survival.{AnnouncedSurvives}
use Rattle.pp_world.specs.World.{PeerState, World, disk_at, reads_of}
use Rattle.pp_world.specs.Worlds.{swarm_of, AreWorlds}

-- ---- the numbers

-- a HAVE or an ACK of the chunk was sent
abbrev pub is_announced_in : Descriptor → ℕ → List Record → Bool
is_announced_in d i [] = false
is_announced_in d i (Received at sender bytes ∷ before) = is_announced_in d i before
is_announced_in d i (Quiet at ∷ before) = is_announced_in d i before
is_announced_in d i (Sent moment receiver bytes ∷ before) =
    announces i (read d (Sent moment receiver bytes)).messages.read || is_announced_in d i before

-- how many chunks the peer announced, each counted once, in whatever sessions
abbrev pub announced_count : Descriptor → PeerState → ℕ
announced_count d x =
    count_by (λ i. list_any (λ s. is_announced_in d i s.traffic) x.sessions) (range_with_len 0 (chunks_of d))

-- the chunk is held in an image behind an open gate
abbrev pub is_held : Descriptor → List ℕ → ℕ → Bool
is_held d image i = is_open d image i && holds d image i

-- A peer at the end, with the number of its openings that succeeded, that of the chunks that it announced, and which
-- chunks are held in what its disk reads.
pub record PeerEnd : Type 0 where
  pub state : PeerState
  pub lives : ℕ
  pub announced : ℕ
  pub held : List Bool

pub record IsEndOf (d : Descriptor) (x : PeerEnd) : Type 0 where
  pub lives : x.lives ≡ length x.state.sessions
  pub announced : x.announced ≡ announced_count d x.state
  pub size : length x.held ≡ chunks_of d
  pub held : (i : ℕ) → i < chunks_of d → slice_index_or x.held i false ≡ is_held d (reads_of x.state) i

-- the line of peer p, with the ranges of the held chunks
unfoldable pub peer_line : (p : ℕ) → PeerEnd → List Span → List ℕ
peer_line p x ranges = line (codes "peer " ++ decimal p ++ codes " lives " ++ decimal x.lives ++ codes " announced "
    ++ decimal x.announced ++ codes " held " ++ ranges_text ranges)

-- The text is a line for each of these peers, the first of which has this number.
abbrev pub AreLines : (p : ℕ) → List PeerEnd → (text : List ℕ) → Type 0
AreLines p [] text = text ≡ []
AreLines p (x ∷ xs) text = (ranges : List Span) × (rest : List ℕ) × AreRanges x.held ranges
    × (text ≡ peer_line p x ranges ++ rest) × AreLines (p + 1) xs rest

-- ---- each session by itself

-- What is seen of one run: the book that it left, how many turns it took, what its link carried, and its disk and its
-- link before and after.
pub record SessionRun : Type 0 where
  pub book : LookUp
  pub turns : ℕ
  pub traffic : List Record
  pub disk : DiskState
  pub disk' : DiskState
  pub link : LinkState
  pub link' : LinkState

-- What a run of one session promises, by the peer's swarm and role.
abbrev pub RunPromise : Type 1
RunPromise = Descriptor → Role → SessionRun → Type 0

-- a session of a peer as a run of its own, over a disk that was attached as its opening began, and a new link
abbrev pub run_of : PeerState → Session → SessionRun
run_of x s = record {
  book = s.book;
  turns = length s.turns;
  traffic = s.traffic;
  disk = disk_at x.disk s s.began;
  disk' = disk_at x.disk s (last_mark s);
  link = new_link;
  link' = link_of s;
}

-- Every chunk that the session sent is served rightly, its book is rooted, and it keeps the promises of a run.
pub record IsRun (Promises : RunPromise) (d : Descriptor) (role : Role) (x : PeerState) (s : Session) : Type 0 where
  pub serves : ServesAll d s.book (window_of d) s.traffic
  pub rooted : IsRooted d s.book
  pub promises : Promises d role (run_of x s)

-- Every session of every peer does; the peers stand in the order of their roles.
abbrev pub AreRuns : RunPromise → Descriptor → List Role → List PeerState → Type 0
AreRuns Promises d [] [] = Unit {0}
AreRuns Promises d (role ∷ roles) (x ∷ xs) =
    AllByRecursion (IsRun Promises d role x) x.sessions × AreRuns Promises d roles xs
AreRuns Promises d [] (x ∷ xs) = ⊥
AreRuns Promises d (role ∷ roles) [] = ⊥

-- ---- the whole

-- These peers are the end of worlds of the schedule, in which every session keeps the promises of a run, what was
-- announced survives, each book has what was told, datagrams are atomic and books agree.
pub record IsOutcome (Promises : RunPromise) (s : Schedule) (ends : List PeerEnd) : Type 0 where
  pub last : World
  pub before : List World
  pub worlds : AreWorlds s (last ∷ before)
  pub peers : map (λ x. x.state) ends ≡ last.peers
  pub numbers : AllByRecursion (IsEndOf (swarm_of s)) ends
  pub runs : AreRuns Promises (swarm_of s) s.roles last.peers
  pub survives : AnnouncedSurvives (swarm_of s) last
  pub knows : AllByRecursion (PeersKnowTold (swarm_of s)) (last ∷ before)
  pub datagrams : DatagramsAreAtomic (swarm_of s) (content_of s) (last ∷ before)
  pub books : AllBooksAgree (swarm_of s) last
