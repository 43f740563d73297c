-- Lists of requests as what calls made of them.
use Rattle.std.specs.Prelude.{◌≡◌, ℕ, ◌+◌, ◌≤◌, nat_le, Bool, true, false, not, ◌&&◌, ◌||◌, List, [], ◌∷◌, length}
use Rattle.pp_terms.specs.tree.Range.{Span, within, has, IsRunsFrom}
use Rattle.pp_ranges.specs.Edits.{without_below}
use Rattle.pp_requests.specs.Lists.{IsLeast, requested, cancelled, without}

-- One call: a REQUEST or a CANCEL of a range, a clearing, the least chunk taken out, or those below a number dropped.
pub data Call : Type 0 where
  Requests : Span → Call
  Cancels : Span → Call
  Clears : Call
  Takes : Call
  Drops : ℕ → Call

abbrev pub without_least : List Span → List Span
without_least [] = []
without_least (x ∷ xs) = without x.first (x ∷ xs)

-- the list after calls, the newest first
abbrev pub listed : List Call → List Span
listed [] = []
listed (Requests range ∷ before) = requested range (listed before)
listed (Cancels range ∷ before) = cancelled range (listed before)
listed (Clears ∷ before) = []
listed (Takes ∷ before) = without_least (listed before)
listed (Drops i ∷ before) = without_below i (listed before)

-- What calls leave stands for these calls: `new` for none, and each other call for one more.
pub record CallsStand : Type 0 where
  pub new : [] ≡ listed []
  pub requests : (range : Span) (list : List Span) (calls : List Call) → list ≡ listed calls
      → requested range list ≡ listed (Requests range ∷ calls)
  pub cancels : (range : Span) (list : List Span) (calls : List Call) → list ≡ listed calls
      → cancelled range list ≡ listed (Cancels range ∷ calls)
  pub clears : (calls : List Call) → [] ≡ listed (Clears ∷ calls)
  pub takes : (least : ℕ) (list : List Span) (calls : List Call) → IsRunsFrom 0 list → IsLeast list least → list ≡ listed calls
      → without least list ≡ listed (Takes ∷ calls)
  pub takes_none : (calls : List Call) → [] ≡ listed calls → [] ≡ listed (Takes ∷ calls)
  pub drops : (i : ℕ) (list : List Span) (calls : List Call) → list ≡ listed calls → without_below i list ≡ listed (Drops i ∷ calls)

-- the call's range is none the wrong way round
abbrev pub IsInOrder : Call → Type 0
IsInOrder (Requests range) = range.first ≤ range.last
IsInOrder (Cancels range) = range.first ≤ range.last
IsInOrder _ = Unit {0}

abbrev pub AreInOrder : List Call → Type 0
AreInOrder [] = Unit {0}
AreInOrder (call ∷ before) = IsInOrder call × AreInOrder before

-- how many calls name a range
abbrev pub edits : List Call → ℕ
edits [] = 0
edits (Requests range ∷ before) = edits before + 1
edits (Cancels range ∷ before) = edits before + 1
edits (_ ∷ before) = edits before

-- A REQUEST names the chunk, and since then no CANCEL does, nothing was cleared, and no chunk above it was dropped to.
abbrev pub is_wanted : ℕ → List Call → Bool
is_wanted i [] = false
is_wanted i (Requests range ∷ before) = within range i || is_wanted i before
is_wanted i (Cancels range ∷ before) = not (within range i) && is_wanted i before
is_wanted i (Clears ∷ before) = false
is_wanted i (Takes ∷ before) = is_wanted i before
is_wanted i (Drops below ∷ before) = nat_le below i && is_wanted i before

-- What calls leave: ranges in order, at most 64 of them and at most one for each call that names a range; and chunks that
-- are wanted, none else.
pub record ListsAreAsked : Type 0 where
  pub runs : (calls : List Call) → AreInOrder calls → IsRunsFrom 0 (listed calls)
  pub most : (calls : List Call) → AreInOrder calls → length (listed calls) ≤ 64
  pub few : (calls : List Call) → AreInOrder calls → length (listed calls) ≤ edits calls
  pub wanted : (calls : List Call) (i : ℕ) → AreInOrder calls → has (listed calls) i ≡ true → is_wanted i calls ≡ true
