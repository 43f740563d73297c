-- The text of a report, read piece by piece.
use Rattle.std.specs.Prelude.{◌≡◌, ℕ, zero, suc, ◌-◌, ◌==◌, if◌then◌else◌, Bool, true, false, Option, Some, None, option_map, List, [], ◌∷◌, ◌++◌, length, codes, slice_index_or}
use Rattle.std.specs.Borrow.{Bor}
use Rattle.pp_terms.specs.command.Report.{more_text, ranges_text}
use Rattle.pp_terms.specs.command.Stream.{SinkState}
use Rattle.pp_terms.specs.tree.Range.{Span}
use Rattle.pp_audit.specs.declared.reports.Walk.{Walk}

-- a sink that took this text, and refused nothing
abbrev pub took : List ℕ → SinkState
took text = record { taken = Some text; faults = 0 }

-- what is left of a text behind a piece, where the text begins with it
unfoldable pub behind : List ℕ → List ℕ → Option (List ℕ)
behind [] text = Some text
behind (x ∷ xs) [] = None
behind (x ∷ xs) (y ∷ ys) = if x == y then behind xs ys else None

unfoldable pub behind_in : List ℕ → Option (List ℕ) → Option (List ℕ)
behind_in piece None = None
behind_in piece (Some text) = behind piece text

abbrev pub left_of : Option (Bor (List ℕ)) → Option (List ℕ)
left_of left = option_map (λ text. text.now) left

-- A piece was read where the text went on with it; else nothing is left.
pub record Reads (piece : List ℕ) (old new : Option (List ℕ)) : Type 0 where
  pub is : new ≡ behind_in piece old

-- ---- the ranges of a set, number by number

-- the range that ends before a number, where one is begun and the number isn't in the set
abbrev pub ended : Option ℕ → ℕ → Bool → List Span
ended None i is_in = []
ended (Some first) i true = []
ended (Some first) i false = record { first = first; last = i - 1 } ∷ []

-- the first number of the range that is begun behind it
abbrev pub begun_after : Option ℕ → ℕ → Bool → Option ℕ
begun_after None i true = Some i
begun_after None i false = None
begun_after (Some first) i true = Some first
begun_after (Some first) i false = None

-- the ranges of so many numbers from one on that pass a test
unfoldable pub ranges_from : (ℕ → Bool) → Option ℕ → (i n : ℕ) → List Span
ranges_from test begun i zero = ended begun i false
ranges_from test begun i (suc n) = ended begun i (test i) ++ ranges_from test (begun_after begun i (test i)) (suc i) n

-- the ranges of a set from one number on
unfoldable pub ranges_behind : List Bool → Option ℕ → ℕ → List Span
ranges_behind set begun i = ranges_from (λ k. slice_index_or set k false) begun i (length set - i)

abbrev pub ranges_of : List Bool → List Span
ranges_of set = ranges_behind set None 0

-- ---- their text

abbrev pub comma : Bool → List ℕ
comma true = codes ","
comma false = []

-- the text of further ranges, behind others or not
abbrev pub rest_text : Bool → List Span → List ℕ
rest_text true ranges = more_text ranges
rest_text false ranges = ranges_text ranges

-- what is left behind the text of further ranges
abbrev pub left_behind : Walk → List Span → Option (List ℕ)
left_behind walk more = behind_in (rest_text walk.is_more more) (left_of walk.left)
