-- Which chunks the seats offer.
use Rattle.std.specs.Prelude.{◌≡◌, ℕ, ◌==◌, Bool, false, not, ◌&&◌, ◌||◌, List, [], ◌∷◌, count_by, slice_index_or}
use Rattle.std.specs.List.{range_with_len}
use Rattle.pp_terms.specs.tree.Range.{Span, within}

-- of a content of so many chunks, for each seat whether it offers each chunk
pub record Offers : Type 0 where
  pub chunks : ℕ
  pub seats : List (List Bool)

abbrev pub has : Offers → ℕ → ℕ → Bool
has o seat i = slice_index_or (slice_index_or o.seats seat []) i false

-- how many seats have a chunk
abbrev pub copies_in : List (List Bool) → ℕ → ℕ
copies_in seats i = count_by (λ seat. slice_index_or seat i false) seats

abbrev pub copies : Offers → ℕ → ℕ
copies o i = copies_in o.seats i

-- a seat offers the chunks of a span, or leaves
pub data Deed : Type 0 where
  Offer : ℕ → Span → Deed
  Leave : ℕ → Deed

-- Whether a seat offered a chunk since it last left, the newest deed first.
abbrev pub offered : List Deed → ℕ → ℕ → Bool
offered [] seat i = false
offered (Offer s span ∷ deeds) seat i = offered deeds seat i || (seat == s && within span i)
offered (Leave s ∷ deeds) seat i = not (seat == s) && offered deeds seat i

-- how many of the 64 seats did
unfoldable pub offers_of : List Deed → ℕ → ℕ
offers_of deeds i = count_by (λ seat. offered deeds seat i) (range_with_len 0 64)

-- The seats offer what those deeds left.
abbrev pub Tells : List Deed → Offers → Type 0
Tells deeds o = (seat i : ℕ) → has o seat i ≡ offered deeds seat i
