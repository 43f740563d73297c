-- Which chunks are asked for next, and of which seat.
use Rattle.std.specs.Prelude.{◌≡◌, ◌⊎◌, ℕ, ◌-◌, ◌^◌, ◌<◌, ◌≤◌, ◌==◌, Bool, true, false, not, ◌&&◌, ◌||◌, Option, Some, None, List, [], ◌∷◌, length, slice_set, slice_index_or}
use Rattle.std.specs.List.{list_any}
use Rattle.pp_terms.specs.tree.Range.{Span, has, IsRunsFrom}
use Rattle.pp_ranges.specs.Edits.{number_count}
use Rattle.pp_avail.specs.declared.ranker.Rank.{Rank}
use Rattle.pp_avail.specs.Offers.{Offers}
use Rattle.pp_wanting.specs.Wants.{WantState, is_for, IsNext}

-- Which chunks a peer has, and has asked for on some channel; and which seat offers which.
pub record FetchState : Type 0 where
  pub want : WantState
  pub offers : Offers

-- All of it is on one content, of 1 to 2^20 chunks.
pub record IsOnContent (s : FetchState) : Type 0 where
  pub some : 0 < length s.want.had
  pub most : length s.want.had ≤ 2 ^ 20
  pub asked : length s.want.asked ≡ length s.want.had
  pub offers : s.offers.chunks ≡ length s.want.had

-- the chunks that are asked for become others
abbrev pub with_asked : List Bool → FetchState → FetchState
with_asked asked s = record { want = record { had = s.want.had; asked = asked; limit = s.want.limit }; offers = s.offers }

-- one chunk more is asked for, or one less
abbrev pub with_request : ℕ → FetchState → FetchState
with_request i s = with_asked (slice_set s.want.asked i true) s

abbrev pub without_request : ℕ → FetchState → FetchState
without_request i s = with_asked (slice_set s.want.asked i false) s

-- The chunks that pass a test are asked for no more, and nothing else changed.
pub record GivesBack (which : ℕ → Bool) (old new : FetchState) : Type 0 where
  pub asked : (i : ℕ) → slice_index_or new.want.asked i false ≡ (slice_index_or old.want.asked i false && not (which i))
  pub rest : new ≡ with_asked new.want.asked old

-- The wanted chunk that the seat offers with the least rank and number; none where there is no such one.
abbrev pub IsNextOf : Rank → (seat : ℕ) → FetchState → Option ℕ → Type 0
IsNextOf kind seat s result = IsNext kind s.want s.offers seat result

-- The chunks were picked one after the other, each the next of the seat then, and each was noted as asked for at once: as many as
-- there was room for, or until there was no next one.
abbrev pub PicksInTurn : Rank → (seat room : ℕ) → FetchState → List ℕ → FetchState → Type 0
PicksInTurn kind seat room old [] new = (new ≡ old) × ((room ≡ 0) ⊎ IsNextOf kind seat old None)
PicksInTurn kind seat room old (i ∷ rest) new =
    (0 < room) × IsNextOf kind seat old (Some i) × PicksInTurn kind seat (room - 1) (with_request i old) rest new

-- The ranges have the chunks that were picked in turn.
pub record HasPicked (kind : Rank) (seat room : ℕ) (old : FetchState) (ranges : List Span) (new : FetchState) : Type 0 where
  pub picks : List ℕ
  pub in_turn : PicksInTurn kind seat room old picks new
  pub each : (i : ℕ) → has ranges i ≡ list_any (λ k. k == i) picks
  pub count : number_count ranges ≡ length picks

-- Each chunk of the ranges was wanted, not asked for, and offered by the seat; and is asked for from now on. There are no more of
-- them than there was room for, and no chunk is in two of the ranges. Nothing else changed.
pub record ArePicked (seat room : ℕ) (old : FetchState) (ranges : List Span) (new : FetchState) : Type 0 where
  pub wanted : (i : ℕ) → has ranges i ≡ true → is_for old.want old.offers seat i ≡ true
  pub inside : (i : ℕ) → has ranges i ≡ true → i < length old.want.had
  pub fresh : (i : ℕ) → has ranges i ≡ true → slice_index_or old.want.asked i false ≡ false
  pub asked : (i : ℕ) → slice_index_or new.want.asked i false ≡ (slice_index_or old.want.asked i false || has ranges i)
  pub few : number_count ranges ≤ room
  pub runs : IsRunsFrom 0 ranges
  pub rest : new ≡ with_asked new.want.asked old
