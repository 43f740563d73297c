-- What is answered where a bin is asked for.
use Rattle.std.specs.Prelude.{◌≡◌, ℕ, ◌-◌, ◌^◌, ◌<◌, Option, MatchOption}
use Rattle.pp_terms.specs.tree.Tree.{Node}
use Rattle.pp_terms.specs.tree.Bins.{IsBin, last_leaf}

abbrev pub node : ℕ → ℕ → Node
node layer offset = record { layer = layer; offset = offset }

-- This bin, where it has a number of so many bits that isn't of one bits alone; and else None.
abbrev pub Gives : ℕ → Node → Option Node → Type 0
Gives width n result = MatchOption result (IsBin width n → ⊥) (λ b. (b ≡ n) × IsBin width n)

-- A bin of so many bits: its number, its layer and its leaves lie within the width.
pub record IsOfWidth (width : ℕ) (b : Node) : Type 0 where
  pub number : IsBin width b
  pub layer : b.layer < width
  pub leaves : last_leaf b < 2 ^ (width - 1)
