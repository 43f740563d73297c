-- Worked examples on small traffic: turns, counts, windows, claims, and what is kept. The swarm is that of "abc".
use Rattle.std.specs.Prelude.{◌≡◌, ℕ, Bool, true, false, ◌||◌, Some, None, List, [], ◌∷◌, ◌++◌, codes, replicate}
use Rattle.pp_terms.specs.Example.{abc, store_of_abc}
use Rattle.pp_terms.specs.disk.Disk.{History, fresh, after_write, settled}
use Rattle.pp_terms.specs.disk.Store.{header}
use Rattle.pp_terms.specs.format.Traffic.{Address, V4, Record, Received, Quiet, Sent}
use Rattle.pp_terms.specs.format.Messages.{Data, Ack, Integrity, Request, Cancel, Choke, only}
use Rattle.pp_terms.specs.command.ReportExample.{thirty}
use Rattle.pp_traffic.specs.Past.{goes_to}
use Rattle.pp_traffic.specs.Story.{Line, Heard, Said}
use Rattle.pp_traffic.specs.Asking.{asks_in}
use Rattle.pp_traffic.specs.Serving.{window_of}
use Rattle.pp_traffic.specs.Claims.{claimed}
use Rattle.pp_traffic.specs.Keeping.{KeepsFrom, Keeps}
use Rattle.pp_traffic.specs.Turns.{events, in_turns, ClosesLast, AtEndsBut}
use Rattle.pp_traffic.specs.Tallied.{came, came_short, went, IsTallied}
use Rattle.pp_traffic.specs.Committed.{RequestsNone}

abbrev pub peer : Address
peer = V4 (192 ∷ 0 ∷ 2 ∷ 1 ∷ []) 4000

-- datagrams for channel 9: a keep-alive, a handshake of source channel 0, a HAVE and a REQUEST of chunk 0
abbrev pub alive : List ℕ
alive = 0 ∷ 0 ∷ 0 ∷ 9 ∷ []

abbrev pub closing : List ℕ
closing = alive ++ 0 ∷ 0 ∷ 0 ∷ 0 ∷ 0 ∷ 255 ∷ []

abbrev pub have : List ℕ
have = alive ++ 3 ∷ 0 ∷ 0 ∷ 0 ∷ 0 ∷ 0 ∷ 0 ∷ 0 ∷ 0 ∷ []

abbrev pub request : List ℕ
request = alive ++ 8 ∷ 0 ∷ 0 ∷ 0 ∷ 0 ∷ 0 ∷ 0 ∷ 0 ∷ 0 ∷ []

-- the peer was written to since the last event, or there was none
abbrev pub is_written_to : List Record → Bool
is_written_to [] = true
is_written_to (Received at sender bytes ∷ before) = false
is_written_to (Quiet at ∷ before) = false
is_written_to (Sent moment receiver bytes ∷ before) = goes_to peer (Sent moment receiver bytes) || is_written_to before

abbrev pub IsWrittenTo : List Record → Type 0
IsWrittenTo past = is_written_to past ≡ true

-- one turn and the closing of the channel: with a keep-alive; with none; with one that comes too late
abbrev pub closed : List Record
closed = Sent 0 peer closing ∷ Sent 0 peer alive ∷ Quiet 1 ∷ []

abbrev pub owed : List Record
owed = Sent 0 peer closing ∷ Quiet 1 ∷ []

abbrev pub late : List Record
late = Sent 0 peer alive ∷ Sent 0 peer closing ∷ Quiet 1 ∷ []

pub record TurnExamples : Type 0 where
  pub one : events closed ≡ 1
  -- the turn ends before the channel is closed, and nothing is sent behind that
  pub turns : in_turns abc closed ≡ Sent 0 peer alive ∷ Quiet 1 ∷ []
  pub last : ClosesLast abc closed
  pub too_late : ClosesLast abc late → ⊥
  -- a keep-alive that is owed at the end of the turn isn't paid by the closing handshake
  pub paid : AtEndsBut 0 abc IsWrittenTo closed
  pub unpaid : AtEndsBut 0 abc IsWrittenTo owed → ⊥
  -- but it may be missing where one turn is excused
  pub excused : AtEndsBut 1 abc IsWrittenTo owed

-- twenty events, three of them datagrams, one of those too short, and two datagrams that were sent
abbrev pub twenty : List Record
twenty =
    Sent 0 peer alive ∷ Received 7 peer alive ∷ Sent 0 peer have ∷ Received 6 peer closing ∷ Received 5 peer have ∷ replicate 17 (Quiet 1)

pub record CountExamples : Type 0 where
  pub counted : (came twenty ≡ 3) × (went twenty ≡ 2) × (came_short (Received 8 peer (0 ∷ 0 ∷ 9 ∷ []) ∷ twenty) ≡ 1)
  -- in thirty turns ten waits were refused
  pub tallied : IsTallied thirty 30 twenty
  -- two messages that came ask for chunks or withdraw a request
  pub asking : asks_in (Heard 3 (Request (only 0)) ∷ Said 2 (Request (only 1)) ∷ Heard 1 (Cancel (only 0)) ∷ Heard 0 Choke ∷ []) ≡ 2
  pub none_asked : RequestsNone abc twenty
  pub one_asked : RequestsNone abc (Sent 0 peer request ∷ twenty) → ⊥

-- two chunks on their way, one of which is acknowledged
abbrev pub two_fly : List Line
two_fly = Said 1 (Data 1 0 (codes "b")) ∷ Said 0 (Data 0 0 (codes "a")) ∷ []

pub record WindowExamples : Type 0 where
  pub empty : window_of abc [] ≡ true
  pub full : window_of abc two_fly ≡ false
  pub acknowledged : window_of abc (Heard 2 (Ack (only 0) 0) ∷ two_fly) ≡ true

-- of three chunks: digests of chunks 0 and 1 together, and of chunks 2 and 3, as they came, the last one first
abbrev pub integrity : List Line
integrity =
    Heard 1 (Integrity (record { first = 2; last = 3 }) (replicate 32 2))
    ∷ Heard 0 (Integrity (record { first = 0; last = 1 }) (replicate 32 1)) ∷ []

pub record ClaimedExamples : Type 0 where
  pub pair : claimed 3 integrity 1 0 ≡ Some (replicate 32 1)
  -- a span is cut to the content, so this one names the last leaf
  pub cut : claimed 3 integrity 0 2 ≡ Some (replicate 32 2)
  pub unclaimed : claimed 3 integrity 1 1 ≡ None
  -- what was sent claims nothing
  pub said : claimed 3 (Said 0 (Integrity (only 0) (replicate 32 1)) ∷ []) 0 0 ≡ None

-- chunk 0 is announced at the disk's moment 0, and at moment 1
abbrev pub announced : ℕ → List Record
announced moment = Sent moment peer have ∷ []

-- the store while it holds no chunk: its gate is closed
abbrev pub empty_store : List ℕ
empty_store = header abc ++ replicate 1089 0

-- the chunk was written there, and is pending
abbrev pub pending : History
pending = after_write (fresh empty_store) 64 (codes "abc")

pub record KeepExamples : Type 0 where
  -- a chunk that is on the disk may be announced
  pub kept : Keeps abc (fresh store_of_abc) (announced 0)
  -- one that is pending may not, but from the sync on
  pub too_early : Keeps abc pending (announced 0) → ⊥
  pub synced : KeepsFrom abc (settled pending store_of_abc) 1 (settled pending store_of_abc).epoch (announced 1)
