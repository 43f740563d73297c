-- Worked examples of ranges, lists of them and covers.
use Rattle.std.specs.Prelude.{◌≡◌, ◌-◌, ◌^◌, true, false, List, [], ◌∷◌}
use Rattle.pp_terms.specs.tree.Tree.{Node}
use Rattle.pp_terms.specs.tree.Range.{Span, within, has, IsRunsFrom, leaves_of, is_covered, IsTiling}

-- 0 to 2 and 4
abbrev pub two_runs : List Span
two_runs = record { first = 0; last = 2 } ∷ record { first = 4; last = 4 } ∷ []

-- the nodes over leaves 1 to 6
abbrev pub one_to_six : List Node
one_to_six = record { layer = 0; offset = 1 } ∷ record { layer = 1; offset = 1 } ∷ record { layer = 1; offset = 2 }
    ∷ record { layer = 0; offset = 6 } ∷ []

pub record RangeExamples : Type 0 where
  -- both ends of a range are in it
  pub ends : (within (record { first = 1; last = 6 }) 1 ≡ true) × (within (record { first = 1; last = 6 }) 6 ≡ true)
      × (within (record { first = 1; last = 6 }) 0 ≡ false) × (within (record { first = 1; last = 6 }) 7 ≡ false)
  -- the numbers of a list
  pub numbers : (has two_runs 2 ≡ true) × (has two_runs 3 ≡ false) × (has two_runs 4 ≡ true) × (has two_runs 5 ≡ false)
  -- a number lies between its ranges; between 0 to 2 and 3 to 4 none does
  pub apart : IsRunsFrom 0 two_runs
  pub touching : ¬ IsRunsFrom 0 (record { first = 0; last = 2 } ∷ record { first = 3; last = 4 } ∷ [])
  -- the leaves of nodes (2, 1) and (32, 0)
  pub leaves : (leaves_of (record { layer = 2; offset = 1 }) ≡ record { first = 4; last = 7 })
      × (leaves_of (record { layer = 32; offset = 0 }) ≡ record { first = 0; last = 2 ^ 32 - 1 })
  -- four nodes over leaves 1 to 6
  pub tiles : IsTiling 1 7 one_to_six
  pub covered : (is_covered one_to_six 1 ≡ true) × (is_covered one_to_six 6 ≡ true) × (is_covered one_to_six 0 ≡ false)
      × (is_covered one_to_six 7 ≡ false)
