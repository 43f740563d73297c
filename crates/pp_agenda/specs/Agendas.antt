-- Which notes are due on a seat's channel, in the order in which they are sent (RFC 7574, section 3).
use Rattle.std.specs.Prelude.{◌≡◌, ◌⊎◌, ℕ, ◌+◌, ◌-◌, ◌<◌, ◌≤◌, nat_lt, min, Bool, false, ◌&&◌, ◌||◌, if◌then◌else◌, Option, Some, None, is_some, List, [], ◌∷◌, ◌++◌, length, map, slice_index_or}
use Rattle.pp_terms.specs.tree.Range.{Span, has, IsRunsFrom}
use Rattle.pp_requests.specs.declared.asking.Asking.{Asking}
use Rattle.pp_requests.specs.Moments.{asked_at}
use Rattle.pp_outside.specs.declared.link.Address.{Address}
use Rattle.pp_outside.specs.declared.link.Address.TheVariants.{V4, V6}
use Rattle.pp_draft.specs.declared.note.Note.{Note}
use Rattle.pp_draft.specs.declared.note.Note.TheVariants as notes
use Rattle.pp_seat.specs.Seats.{SeatState}
use Rattle.pp_seat.specs.Own.{IsNextRow}
use Rattle.pp_seat.specs.Turns.{due_turn}
use Rattle.pp_seat.specs.declared.service.Turn.{Turn}
use Rattle.pp_seat.specs.declared.service.Turn.TheVariants.{Choke, Unchoke}
use Rattle.pp_news.specs.declared.acknowledgement.Acknowledgement.{Acknowledgement}
use Rattle.pp_agenda.specs.declared.agenda.Due.{Due}

-- ---- one kind after the other

-- notes that are due only under a condition
abbrev pub only : Bool → List Note → List Note
only is_due list = if is_due then list else []

-- CHOKE or UNCHOKE, of which only CHOKE goes on a channel that isn't proven
abbrev pub turn_notes : (is_proven : Bool) → Option Turn → List Note
turn_notes is_proven None = []
turn_notes is_proven (Some Choke) = notes.Choke ∷ []
turn_notes is_proven (Some Unchoke) = only is_proven (notes.Unchoke ∷ [])

abbrev pub ack_note : Acknowledgement → Note
ack_note one = notes.Ack one.range one.delay

abbrev pub have_note : Span → Note
have_note range = notes.Have range

abbrev pub request_note : Span → Note
request_note range = notes.Request range

abbrev pub cancel_note : Span → Note
cancel_note range = notes.Cancel range

abbrev pub address_note : Address → Note
address_note (V4 bytes port) = notes.Pex4 bytes port
address_note (V6 bytes port) = notes.Pex6 bytes port

-- what lies below a number, of each range that begins there
abbrev pub parts_below : ℕ → List Span → List Span
parts_below limit [] = []
parts_below limit (x ∷ xs) =
    if nat_lt x.first limit then record { first = x.first; last = min x.last (limit - 1) } ∷ parts_below limit xs
    else parts_below limit xs

-- The rows are the next ranges of committed chunks from a chunk on, one behind the other: so many, or all that there are.
abbrev pub AreRows : ℕ → List Bool → (most : ℕ) → List Span → Type 0
AreRows from committed most [] = (most ≡ 0) ⊎ ((i : ℕ) → from ≤ i → slice_index_or committed i false ≡ false)
AreRows from committed most (row ∷ rows) =
    (0 < most) × IsNextRow from committed row × AreRows (row.last + 1) committed (most - 1) rows

-- how many rows are told of at the most
abbrev pub most_rows : (tells : Bool) → ℕ
most_rows tells = if tells then 64 else 0

-- the chunk is awaited on the channel and was committed
abbrev pub is_cancelled : (is_proven : Bool) → List Asking → List Bool → ℕ → Bool
is_cancelled is_proven own committed i = is_proven && (is_some (asked_at own i) && slice_index_or committed i false)

-- ---- all of them

-- There are so many notes at the most.
abbrev pub most_notes : ℕ
most_notes = 1_099

-- the notes of all kinds but KEEPALIVE, where these rows are told of and these ranges are cancelled
abbrev pub spoken_notes : SeatState → Due → (rows cancels : List Span) → List Note
spoken_notes s due rows cancels =
    turn_notes s.proven (due_turn s)
    ++ only s.proven (map ack_note due.acknowledgements.now)
    ++ only (due.tells && s.proven) (map have_note (parts_below s.cursor due.news.now))
    ++ map have_note rows
    ++ only s.proven (map request_note due.requests.now)
    ++ map cancel_note cancels
    ++ only (s.proven && due.asks_addresses) (notes.PexReq ∷ [])
    ++ only s.proven (map address_note due.addresses.now)

-- the notes; KEEPALIVE, where it is due, if there are none
abbrev pub or_keep_alive : Bool → List Note → List Note
or_keep_alive is_due [] = only is_due (notes.KeepAlive ∷ [])
or_keep_alive is_due (note ∷ rest) = note ∷ rest

-- The notes that are due on a seat's channel: all of them, in their order, and nothing else.
pub record IsAgenda (s : SeatState) (due : Due) (agenda : List Note) : Type 0 where
  pub rows : List Span
  pub cancels : List Span
  pub are_rows : AreRows s.cursor due.committed.now (most_rows due.tells) rows
  -- the fewest ranges
  pub runs : IsRunsFrom 0 cancels
  pub cancelled : (i : ℕ) → has cancels i ≡ is_cancelled s.proven s.own due.committed.now i
  pub is : agenda ≡ or_keep_alive ((due.tells || s.proven) && due.is_silent) (spoken_notes s due rows cancels)
  pub few : length agenda ≤ most_notes

-- ---- as far as a call puts them

-- Rows came behind the notes.
pub record HasRows (from : ℕ) (committed : List Bool) (most : ℕ) (old new : List Note) : Type 0 where
  pub rows : List Span
  pub are_rows : AreRows from committed most rows
  pub is : new ≡ old ++ map have_note rows

-- Cancellations of all awaited chunks that were committed came behind the notes.
pub record HasCancels (s : SeatState) (committed : List Bool) (old new : List Note) : Type 0 where
  pub cancels : List Span
  pub runs : IsRunsFrom 0 cancels
  pub cancelled : (i : ℕ) → has cancels i ≡ is_cancelled s.proven s.own committed i
  pub is : new ≡ old ++ map cancel_note cancels
