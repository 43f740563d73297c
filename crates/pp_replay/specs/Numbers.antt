-- Words that may be numbers, as far as their length and their first byte tell.
use Rattle.std.specs.Prelude.{ℕ, ◌==◌, nat_le, Bool, true, false, not, ◌&&◌, List, [], ◌∷◌, length}

abbrev pub may_be_number : List ℕ → Bool
may_be_number [] = false
may_be_number (c ∷ []) = true
may_be_number (c ∷ d ∷ ds) = not (c == 48) && nat_le (length ds) 18
