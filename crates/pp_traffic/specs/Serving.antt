-- The promise on what is sent: every chunk has its hash path in the book, answers an outstanding request of an unchoked
-- peer, brings the hashes that the peer lacks, and fits the window (RFC 7574, sections 3.5 to 3.9, 5.3 and 8.16).
use Rattle.std.specs.Prelude.{◌≡◌, ℕ, Bool, true, false, Option, Some, List, [], ◌∷◌, ◌++◌}
use Rattle.std.specs.List.{AllByRecursion}
use Rattle.pp_terms.specs.format.Traffic.{Address, Record, Received, Quiet, Sent}
use Rattle.pp_terms.specs.format.Descriptor.{Descriptor, chunks_of}
use Rattle.pp_terms.specs.tree.Book.{LookUp, IsBacked}
use Rattle.pp_terms.specs.format.Messages.{Message, Data}
use Rattle.pp_traffic.specs.Past.{read, EachRecord}
use Rattle.pp_traffic.specs.Life.{Life, IsLife}
use Rattle.pp_traffic.specs.Story.{Line, story}
use Rattle.pp_traffic.specs.Asking.{choked, asked, is_heard}
use Rattle.pp_traffic.specs.Hashes.{is_told, completes, brings, Carries}
use Rattle.pp_traffic.specs.Meter.{lets_send}

-- Which stories let one more chunk be sent: a congestion window, as a test.
abbrev pub Window : Type 0
Window = List Line → Bool

-- the window of a swarm's channels, LEDBAT (RFC 6817)
abbrev pub window_of : Descriptor → Window
window_of d = lets_send d.chunk

-- A chunk, behind some messages, answers the peer on this life.
pub record AnswersOn (d : Descriptor) (window : Window) (past : List Record) (life : Life) (i : ℕ) (front : List Message) : Type 0 where
  pub alive : IsLife d life past
  pub asked_for : asked i (story d life past) ≡ true
  pub unchoked : choked (story d life past) ≡ false
  pub heard : is_heard d life past ≡ true
  pub whole_path : completes (chunks_of d) (brings front) (is_told (chunks_of d) (story d life past)) i ≡ true
  pub in_window : window (story d life past) ≡ true

-- The chunk answers its peer on some life of the datagram's receiver and number.
pub record AnswersPeer (d : Descriptor) (window : Window) (past : List Record) (receiver : Address) (channel : Option ℕ)
    (i : ℕ) (front : List Message) : Type 0 where
  pub life : Life
  pub at : life.address ≡ receiver
  pub by : channel ≡ Some life.remote
  pub answers : AnswersOn d window past life i front

-- A DATA is the last message of its datagram. Its bytes are the book's, as are the hashes before it.
pub record ServesChunk (d : Descriptor) (book : LookUp) (window : Window) (past : List Record) (receiver : Address) (channel : Option ℕ)
    (front : List Message) (i : ℕ) (bytes : List ℕ) (rest : List Message) : Type 0 where
  pub last : rest ≡ []
  pub backed : IsBacked d book i bytes
  pub hashes : AllByRecursion (Carries book) front
  pub peer : AnswersPeer d window past receiver channel i front

-- The messages of a datagram, some of which stand before the others.
abbrev pub ServesFrom : Descriptor → LookUp → Window → List Record → Address → Option ℕ → List Message → List Message → Type 0
ServesFrom d book window past receiver channel front [] = Unit {0}
ServesFrom d book window past receiver channel front (Data i sent_at bytes ∷ rest) =
    ServesChunk d book window past receiver channel front i bytes rest
ServesFrom d book window past receiver channel front (m ∷ rest) = ServesFrom d book window past receiver channel (front ++ m ∷ []) rest

-- A record is no sent chunk, or serves so, by the records before it.
abbrev pub Serves : Descriptor → LookUp → Window → List Record → Record → Type 0
Serves d book window past (Received at sender bytes) = Unit {0}
Serves d book window past (Quiet at) = Unit {0}
Serves d book window past (Sent moment receiver bytes) =
    let it = read d (Sent moment receiver bytes) in
    ServesFrom d book window past receiver it.channel [] it.messages.read

-- Every record does.
abbrev pub ServesAll : Descriptor → LookUp → Window → List Record → Type 0
ServesAll d book window past = EachRecord (Serves d book window) past
