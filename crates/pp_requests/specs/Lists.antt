-- The numbers of a list of ranges, and what a REQUEST and a CANCEL make of it.
use Rattle.std.specs.Prelude.{◌≡◌, ℕ, ◌<◌, nat_lt, Bool, true, false, if◌then◌else◌, Some, List, length}
use Rattle.std.specs.List.{filter}
use Rattle.pp_terms.specs.tree.Range.{Span, has}
use Rattle.pp_ranges.specs.Edits.{inserted, removed, number_count, is_apart}

-- a number of the list, and no lesser one is in it
pub record IsLeast (list : List Span) (least : ℕ) : Type 0 where
  pub listed : has list least ≡ true
  pub lesser : (i : ℕ) → i < least → has list i ≡ false

-- the ranges are more than a list has room for
abbrev pub are_too_many : List Span → Bool
are_too_many list = nat_lt 64 (length list)

-- the list with a range more, or as it is where that would be too many
abbrev pub requested : Span → List Span → List Span
requested range list = if are_too_many (inserted (Some range) list) then list else inserted (Some range) list

-- the list without a range; and without each range that meets it, where too many would be left
abbrev pub cancelled : Span → List Span → List Span
cancelled range list = if are_too_many (removed range list) then filter (is_apart range) list else removed range list

-- the list without a number
abbrev pub without : ℕ → List Span → List Span
without i list = removed (record { first = i; last = i }) list

-- how many chunks are listed
abbrev pub chunk_count : List Span → ℕ
chunk_count list = number_count list
