-- Which messages a peer takes (RFC 7574, section 7.10).
use Rattle.std.specs.Prelude.{ℕ, ◌/◌, ◌%◌, ◌-◌, ◌==◌, Bool, true, Option, Some, None, List, slice_index}
use Rattle.std.specs.Int.{bit_at}
use Rattle.pp_terms.specs.format.Options.{Options}

-- The bit of a type is set: they are counted from the left of the first byte, and those past the last byte are not set.
abbrev pub is_set : List ℕ → ℕ → Bool
is_set bitmap kind = bit_at (slice_index bitmap (kind / 8)) (7 - kind % 8) == 1

-- the bitmap is absent, or has the type's bit
abbrev pub is_in_bitmap : Option (List ℕ) → ℕ → Bool
is_in_bitmap None kind = true
is_in_bitmap (Some bitmap) kind = is_set bitmap kind

abbrev pub takes : Options → ℕ → Bool
takes o kind = is_in_bitmap o.messages kind
