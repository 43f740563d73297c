-- One word after the other.
use Rattle.std.specs.Prelude.{◌≡◌, ℕ, ◌+◌, List, ◌∷◌, drop, String}
use Rattle.std.specs.declared.alloc.Global.{Global}
use Rattle.pp_words.specs.CommandLine.{Slot, IsWrongFrom}
use Rattle.pp_words.specs.declared.types.Usage.{Usage}
use Rattle.pp_words.specs.Views.{texts, usage_of}

-- the word at a place, and then those after it
abbrev pub Takes : List (String Global) → ℕ → List ℕ → Type 0
Takes words at text = drop at (texts words) ≡ text ∷ drop (at + 1) (texts words)

-- Where the words from a place on have to fill this slot and then others, that is the first wrong one.
abbrev pub Stops : Slot → List (String Global) → ℕ → Usage → Type 0
Stops slot words at u = (slots : List Slot) (peers : ℕ) → IsWrongFrom (slot ∷ slots) peers at (drop at (texts words)) (usage_of u)
