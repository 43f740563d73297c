-- Truth values packed into words of 64 bits, the lowest bit first.
use Rattle.std.specs.Prelude.{◌≡◌, ℕ, ◌-◌, ◌*◌, ◌/◌, ◌%◌, ◌^◌, ◌<◌, ◌≤◌, ◌==◌, Bool, List, map, length, slice_index}
use Rattle.std.specs.List.{range_with_len}

abbrev pub bit_of : List ℕ → ℕ → Bool
bit_of words i = slice_index words (i / 64) / 2 ^ (i % 64) % 2 == 1

-- the first bits of words, as many as the number says
abbrev pub bits_of : ℕ → List ℕ → List Bool
bits_of count words = map (bit_of words) (range_with_len 0 count)

-- one bit a word says whether all bits of the word are set
abbrev pub IsSummary : List ℕ → List ℕ → Type 0
IsSummary summary words = (w : ℕ) → bit_of summary w ≡ (slice_index words w == 2 ^ 64 - 1)

-- such bits, their words and the summary of these
abbrev pub IsPacked : ℕ → List ℕ → List ℕ → Type 0
IsPacked count words summary =
    (count ≤ 64 * length words) × (length words ≤ 64 * length summary) × IsSummary summary words × (count < 2 ^ 64)
