-- Texts of digits.
use Rattle.std.specs.Prelude.{◌≡◌, ℕ, ◌<◌, true, List, length, slice_index}
use Rattle.pp_terms.specs.format.DescriptorRead.{is_digit}

abbrev pub AreDigits : List ℕ → Type 0
AreDigits text = (k : ℕ) → k < length text → is_digit (slice_index text k) ≡ true
