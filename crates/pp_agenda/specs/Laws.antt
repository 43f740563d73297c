-- What follows of the notes that are due: they may be said, and they leave nothing out.
use Rattle.std.specs.Prelude.{◌≡◌, ◌⊎◌, ℕ, ◌^◌, ◌<◌, ◌≤◌, Bool, true, false, ◌&&◌, if◌then◌else◌, Option, Some, List, [], ◌∷◌, length, slice_index_or}
use Rattle.std.specs.List.{AllByRecursion, list_any}
use Rattle.pp_terms.specs.tree.Range.{Span, within, has}
use Rattle.pp_terms.specs.format.Descriptor.{Descriptor, chunks_of}
use Rattle.pp_outside.specs.declared.link.Address.{Address}
use Rattle.pp_outside.specs.declared.link.Address.TheVariants.{V4, V6}
use Rattle.pp_draft.specs.declared.note.Note.{Note}
use Rattle.pp_draft.specs.declared.note.Note.TheVariants.{Choke, Unchoke, Ack, Cancel, PexReq, Pex4, Pex6}
use Rattle.pp_draft.specs.Notes.{IsInside}
use Rattle.pp_seat.specs.Seats.{SeatState}
use Rattle.pp_seat.specs.Turns.{due_turn}
use Rattle.pp_seat.specs.declared.service.Turn.{Turn}
use Rattle.pp_seat.specs.declared.service.Turn.TheVariants as turns
use Rattle.pp_desk.specs.Steps.{IsPlain}
use Rattle.pp_seats.specs.Sending.{requested, tells_note, FitAll, MaySay}
use Rattle.pp_news.specs.declared.acknowledgement.Acknowledgement.{Acknowledgement}
use Rattle.pp_agenda.specs.declared.agenda.Due.{Due}
use Rattle.pp_agenda.specs.Agendas.{AreRows, is_cancelled, IsAgenda}

-- ---- what is asked of what is due

-- The range is in order, and all of its chunks are in the set.
pub record IsCommitted (committed : List Bool) (range : Span) : Type 0 where
  pub order : range.first ≤ range.last
  pub each : (i : ℕ) → within range i ≡ true → slice_index_or committed i false ≡ true

-- What came and what is new is committed, and what is asked for are chunks of the content.
pub record IsPlaced (chunks : ℕ) (due : Due) : Type 0 where
  pub size : length due.committed.now ≡ chunks
  pub came : AllByRecursion (λ (one : Acknowledgement). IsCommitted due.committed.now one.range) due.acknowledgements.now
  pub new : AllByRecursion (IsCommitted due.committed.now) due.news.now
  pub inside : AllByRecursion (λ (range : Span). range.last < chunks) due.requests.now

-- What is due lies in the content; and for what is asked for there is room, and none of it is asked for already.
pub record IsFitting (chunks : ℕ) (s : SeatState) (due : Due) : Type 0 where
  pub placed : IsPlaced chunks due
  pub fit : FitAll due.requests.now s.own

-- ---- the notes may be said

-- All that `speak` asks of notes.
pub record MayGo (d : Descriptor) (agenda : List Note) : Type 0 where
  pub plain : AllByRecursion IsPlain agenda
  pub inside : AllByRecursion (IsInside d) agenda
  pub few : length agenda < 2 ^ 32

abbrev pub AllMayGo : Type 0
AllMayGo = (d : Descriptor) (s : SeatState) (due : Due) (agenda : List Note) → IsPlaced (chunks_of d) due → IsAgenda s due agenda
    → MayGo d agenda

-- The notes of an agenda may go, and may be said on their channel, where a set has all that is announced.
pub record MaySpeak (d : Descriptor) (held : ℕ → Bool) (s : SeatState) (agenda : List Note) : Type 0 where
  pub goes : MayGo d agenda
  pub may : MaySay held agenda s

-- The set is that of the committed chunks.
abbrev pub MayBeSaid : Type 0
MayBeSaid = (d : Descriptor) (held : ℕ → Bool) (s : SeatState) (due : Due) (agenda : List Note) → IsFitting (chunks_of d) s due
    → ((i : ℕ) → held i ≡ slice_index_or due.committed.now i false) → IsAgenda s due agenda → MaySpeak d held s agenda

-- ---- what is told

-- the notes tell of the chunk
abbrev pub are_telling : List Note → ℕ → Bool
are_telling agenda i = list_any (tells_note i) agenda

-- New chunks below the cursor are told of on a proven channel.
abbrev pub CoversNews : Type 0
CoversNews = (s : SeatState) (due : Due) (agenda : List Note) → IsAgenda s due agenda → s.proven ≡ true → due.tells ≡ true
    → (i : ℕ) → has due.news.now i ≡ true → i < s.cursor → are_telling agenda i ≡ true

-- All committed chunks from the cursor on are told of, or the next 64 ranges of them.
abbrev pub CoversRows : Type 0
CoversRows = (s : SeatState) (due : Due) (agenda : List Note) → IsAgenda s due agenda → due.tells ≡ true
    → ((i : ℕ) → s.cursor ≤ i → slice_index_or due.committed.now i false ≡ true → are_telling agenda i ≡ true)
    ⊎ ((rows : List Span) × (length rows ≡ 64) × AreRows s.cursor due.committed.now 64 rows
    × ((i : ℕ) → has rows i ≡ true → are_telling agenda i ≡ true))

-- What is told of is committed.
abbrev pub KnowsNoMore : Type 0
KnowsNoMore = (s : SeatState) (due : Due) (agenda : List Note) → AllByRecursion (IsCommitted due.committed.now) due.news.now
    → IsAgenda s due agenda
    → (i : ℕ) → are_telling agenda i ≡ true → slice_index_or due.committed.now i false ≡ true

-- ---- what is exchanged

-- what the ACKs acknowledge
abbrev pub acked : List Note → List Acknowledgement
acked [] = []
acked (Ack range delay ∷ rest) = record { range = range; delay = delay } ∷ acked rest
acked (_ ∷ rest) = acked rest

-- the addresses that are told
abbrev pub addressed : List Note → List Address
addressed [] = []
addressed (Pex4 address port ∷ rest) = V4 address port ∷ addressed rest
addressed (Pex6 address port ∷ rest) = V6 address port ∷ addressed rest
addressed (_ ∷ rest) = addressed rest

-- the note cancels the chunk
abbrev pub cancels_note : ℕ → Note → Bool
cancels_note i (Cancel range) = within range i
cancels_note i _ = false

-- the notes cancel the chunk
abbrev pub are_cancelling : List Note → ℕ → Bool
are_cancelling agenda i = list_any (cancels_note i) agenda

abbrev pub is_address_request : Note → Bool
is_address_request PexReq = true
is_address_request _ = false

-- On a proven channel all that came is acknowledged, all that is to be asked for is asked for, and addresses are asked for and
-- told; else nothing.
pub record Exchanges (s : SeatState) (due : Due) (agenda : List Note) : Type 0 where
  pub acknowledges : acked agenda ≡ (if s.proven then due.acknowledgements.now else [])
  pub asks : requested agenda ≡ (if s.proven then due.requests.now else [])
  pub asks_addresses : list_any is_address_request agenda ≡ (s.proven && due.asks_addresses)
  pub tells_addresses : addressed agenda ≡ (if s.proven then due.addresses.now else [])

abbrev pub ExchangesAll : Type 0
ExchangesAll = (s : SeatState) (due : Due) (agenda : List Note) → IsAgenda s due agenda → Exchanges s due agenda

-- Just the awaited chunks that are committed are cancelled, on a proven channel.
abbrev pub CancelsAll : Type 0
CancelsAll = (s : SeatState) (due : Due) (agenda : List Note) → IsAgenda s due agenda
    → (i : ℕ) → are_cancelling agenda i ≡ is_cancelled s.proven s.own due.committed.now i

-- ---- whose turn it is

abbrev pub is_choke : Note → Bool
is_choke Choke = true
is_choke _ = false

abbrev pub is_unchoke : Note → Bool
is_unchoke Unchoke = true
is_unchoke _ = false

abbrev pub is_choke_due : Option Turn → Bool
is_choke_due (Some turns.Choke) = true
is_choke_due _ = false

abbrev pub is_unchoke_due : Option Turn → Bool
is_unchoke_due (Some turns.Unchoke) = true
is_unchoke_due _ = false

-- CHOKE goes just where it is due, and UNCHOKE where it is on a proven channel.
pub record TakesTurns (s : SeatState) (agenda : List Note) : Type 0 where
  pub chokes : list_any is_choke agenda ≡ is_choke_due (due_turn s)
  pub unchokes : list_any is_unchoke agenda ≡ (s.proven && is_unchoke_due (due_turn s))

abbrev pub ChokesWhereDue : Type 0
ChokesWhereDue = (s : SeatState) (due : Due) (agenda : List Note) → IsAgenda s due agenda → TakesTurns s agenda

-- A datagram goes where one is due and may go, even if there is nothing to say.
abbrev pub IsNeverSilent : Type 0
IsNeverSilent = (s : SeatState) (due : Due) (agenda : List Note) → IsAgenda s due agenda
    → (due.tells ≡ true) ⊎ (s.proven ≡ true) → due.is_silent ≡ true → 0 < length agenda
