-- What a sink took of a piece.
use Rattle.std.specs.Prelude.{ℕ, ◌<◌, List, length, take}
use Rattle.pp_terms.specs.command.Stream.{SinkState, Gains}

-- The sink gained the first bytes of a piece, and not all of them.
pub record GainsPart (piece : List ℕ) (old new : SinkState) : Type 0 where
  pub count : ℕ
  pub short : count < length piece
  pub gained : Gains old.taken (take count piece) new.taken
