-- The order in which missing chunks are asked for.
use Rattle.std.specs.Prelude.{ℕ, List, codes}

-- By rising number, or those first that the fewest peers have.
pub data Order : Type 0 where
  Sequential : Order
  Rarest : Order

abbrev pub order_text : Order → List ℕ
order_text Sequential = codes "sequential"
order_text Rarest = codes "rarest"
