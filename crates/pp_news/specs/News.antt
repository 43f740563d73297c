-- What is told of chunks that were committed: their ranges to all channels, and acknowledgements to those whom they came from.
use Rattle.std.specs.Prelude.{◌≡◌, ℕ, ◌<◌, ◌≤◌, ◌==◌, Bool, true, false, List, [], ◌∷◌, ◌++◌, length, map, slice_index_or}
use Rattle.std.specs.List.{All, filter, list_any}
use Rattle.pp_terms.specs.tree.Range.{Span, within, has, IsRunsFrom}
use Rattle.pp_holding.specs.declared.queue.Ticket.{Ticket}
use Rattle.pp_news.specs.declared.acknowledgement.Acknowledgement.{Acknowledgement}

-- The ranges that were gathered last, and what is to be acknowledged on the seat's channel that was asked for last.
pub record NewsState : Type 0 where
  pub ranges : List Span
  pub acknowledgements : List Acknowledgement

-- nothing was gathered or asked for
abbrev pub no_news : NewsState
no_news = record { ranges = []; acknowledgements = [] }

-- one of the tickets is for chunk i
abbrev pub has_chunk : List Ticket → ℕ → Bool
has_chunk tickets i = list_any (λ t. t.chunk == i) tickets

-- The chunks of all tickets are in a set.
abbrev pub AreIn : List Bool → List Ticket → Type 0
AreIn committed tickets = (i : ℕ) → has_chunk tickets i ≡ true → slice_index_or committed i false ≡ true

-- a seat's tickets, in their order
abbrev pub of_seat : (seat : ℕ) → List Ticket → List Ticket
of_seat seat tickets = filter (λ t. t.seat == seat) tickets

-- The ranges have the tickets' chunks and no others, rise, and are the fewest: between one and the next a number is left out.
pub record AreRunsOf (tickets : List Ticket) (ranges : List Span) : Type 0 where
  pub same : (i : ℕ) → has ranges i ≡ has_chunk tickets i
  pub runs : IsRunsFrom 0 ranges
  pub few : length ranges ≤ length tickets

-- the ranges of acknowledgements
abbrev pub ranges_of : List Acknowledgement → List Span
ranges_of acknowledgements = map (λ a. a.range) acknowledgements

-- a ticket's chunk by itself
abbrev pub alone : Ticket → Acknowledgement
alone t = record { range = record { first = t.chunk; last = t.chunk }; delay = t.delay }

-- The delay is that of a ticket in the range behind which no other in the range stands.
pub record IsNewestIn (range : Span) (tickets : List Ticket) (delay : ℕ) : Type 0 where
  pub before : List Ticket
  pub newest : Ticket
  pub after : List Ticket
  pub order : tickets ≡ before ++ newest ∷ after
  pub inside : within range newest.chunk ≡ true
  pub last : list_any (λ t. within range t.chunk) after ≡ false
  pub same : delay ≡ newest.delay

-- Some chunk between two isn't committed.
pub record HasGap (committed : List Bool) (low high : ℕ) : Type 0 where
  pub chunk : ℕ
  pub above : low < chunk
  pub below : chunk < high
  pub absent : slice_index_or committed chunk false ≡ false

-- the first of the ranges, where there is one, begins behind a chunk that isn't committed
abbrev pub BeginsBehindGap : List Bool → ℕ → List Span → Type 0
BeginsBehindGap committed low [] = Unit {0}
BeginsBehindGap committed low (x ∷ xs) = HasGap committed low x.first

-- The ranges rise, and between one and the next some chunk isn't committed, so that no two could be one.
abbrev pub AreApart : List Bool → List Span → Type 0
AreApart committed [] = Unit {0}
AreApart committed (x ∷ xs) = (x.first ≤ x.last) × BeginsBehindGap committed x.last xs × AreApart committed xs

-- Both ends of a range are chunks of tickets.
abbrev pub HasOwnEnds : List Ticket → Span → Type 0
HasOwnEnds tickets range = (has_chunk tickets range.first ≡ true) × (has_chunk tickets range.last ≡ true)

-- The tickets' chunks lie in ranges of committed chunks, which are the fewest and end with chunks of tickets; each range is
-- acknowledged with the delay of its newest ticket.
pub record AreJoined (committed : List Bool) (tickets : List Ticket) (acknowledgements : List Acknowledgement) : Type 0 where
  pub all : (i : ℕ) → has_chunk tickets i ≡ true → has (ranges_of acknowledgements) i ≡ true
  pub none_else : (i : ℕ) → has (ranges_of acknowledgements) i ≡ true → slice_index_or committed i false ≡ true
  pub ends : All (λ a. HasOwnEnds tickets a.range) acknowledgements
  pub apart : AreApart committed (ranges_of acknowledgements)
  pub newest : All (λ a. IsNewestIn a.range tickets a.delay) acknowledgements
  pub few : length acknowledgements ≤ length tickets

-- The tickets are acknowledged in ranges, and then the repeats, each alone and in their order.
pub record AreAcknowledged (committed : List Bool) (tickets repeats : List Ticket) (acknowledgements : List Acknowledgement)
    : Type 0 where
  pub joined : List Acknowledgement
  pub order : acknowledgements ≡ joined ++ map alone repeats
  pub are_joined : AreJoined committed tickets joined

-- A range is acknowledged behind others.
pub record IsPushed (first last : ℕ) (tickets : List Ticket) (old new : List Acknowledgement) : Type 0 where
  pub delay : ℕ
  pub items : new ≡ old ++ record { range = record { first = first; last = last }; delay = delay } ∷ []
  pub newest : IsNewestIn (record { first = first; last = last }) tickets delay
