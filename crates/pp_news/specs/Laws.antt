-- Laws of news, which a function of this crate states.
use Rattle.std.specs.Prelude.{◌≡◌, ℕ, Bool, true, false, ◌⊎◌, List, slice_index_or}
use Rattle.std.specs.List.{AllByRecursion}
use Rattle.pp_terms.specs.tree.Range.{Span, has}
use Rattle.pp_holding.specs.declared.queue.Ticket.{Ticket}
use Rattle.pp_news.specs.declared.acknowledgement.Acknowledgement.{Acknowledgement}
use Rattle.pp_news.specs.News.{has_chunk, ranges_of, of_seat, AreIn, AreRunsOf, AreAcknowledged}

-- Each ticket's chunk is told, and where all these are committed, whatever is told is.
pub record AreTold (tickets : List Ticket) (ranges : List Span) : Type 0 where
  pub all : (i : ℕ) → has_chunk tickets i ≡ true → has ranges i ≡ true
  pub none_else : (committed : List Bool) → AreIn committed tickets → (i : ℕ) → has ranges i ≡ true
      → slice_index_or committed i false ≡ true

abbrev pub AllAreTold : Type 0
AllAreTold = (tickets : List Ticket) (ranges : List Span) → AreRunsOf tickets ranges → AreTold tickets ranges

-- The chunk of each ticket and of each repeat is acknowledged.
abbrev pub AllAreAcknowledged : Type 0
AllAreAcknowledged = (committed : List Bool) (tickets repeats : List Ticket) (acknowledgements : List Acknowledgement)
    → AreAcknowledged committed tickets repeats acknowledgements → (i : ℕ)
    → (has_chunk tickets i ≡ true) ⊎ (has_chunk repeats i ≡ true)
    → has (ranges_of acknowledgements) i ≡ true

-- Only committed chunks are acknowledged, where the repeats are of such.
abbrev pub NoneElse : Type 0
NoneElse = (committed : List Bool) (tickets repeats : List Ticket) (acknowledgements : List Acknowledgement)
    → AreAcknowledged committed tickets repeats acknowledgements → AreIn committed repeats
    → (i : ℕ) → has (ranges_of acknowledgements) i ≡ true → slice_index_or committed i false ≡ true

-- Where the chunks of all tickets are in a set, those of a seat's tickets are.
abbrev pub OwnAreIn : Type 0
OwnAreIn = (committed : List Bool) (seat : ℕ) (tickets : List Ticket)
    → AllByRecursion (λ t. slice_index_or committed t.chunk false ≡ true) tickets → AreIn committed (of_seat seat tickets)
