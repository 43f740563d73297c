-- What a sink gained since a player began.
use Rattle.std.specs.Prelude.{ℕ, List, ◌++◌}
use Rattle.pp_terms.specs.tree.Book.{LookUp, IsBacked}
use Rattle.pp_terms.specs.format.Descriptor.{Descriptor}
use Rattle.pp_terms.specs.command.Stream.{SinkState, Gains}
use Rattle.pp_stream.specs.Chunks.{AreNext}

-- The chunks before the base, in order, each backed by the book, and then these bytes.
pub record HasPlayed (d : Descriptor) (book : LookUp) (base : ℕ) (old new : SinkState) (more : List ℕ) : Type 0 where
  pub bytes : List ℕ
  pub chunks : AreNext d (IsBacked d book) 0 base bytes
  pub gained : Gains old.taken (bytes ++ more) new.taken
