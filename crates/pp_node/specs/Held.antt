-- The ranges of the chunks that are held, as they are printed.
use Rattle.std.specs.Prelude.{◌≡◌, ℕ, ◌+◌, ◌≤◌, Bool, false, List, slice_index_or}
use Rattle.pp_terms.specs.tree.Range.{Span, has, IsRunsFrom}
use Rattle.pp_terms.specs.command.Report.{more_text, ranges_text, AreRanges}
use Rattle.pp_terms.specs.command.Stream.{SinkState, Gains}

-- The sink gained a set's ranges.
pub record HasRanges (set : List Bool) (old new : SinkState) : Type 0 where
  pub ranges : List Span
  pub are : AreRanges set ranges
  pub gained : Gains old.taken (ranges_text ranges) new.taken

-- The sink gained the ranges of a set's numbers from one on, each with a comma before it; none begins at that number.
pub record HasMore (set : List Bool) (from : ℕ) (old new : SinkState) : Type 0 where
  pub ranges : List Span
  pub runs : IsRunsFrom (from + 1) ranges
  pub same : (i : ℕ) → from ≤ i → has ranges i ≡ slice_index_or set i false
  pub gained : Gains old.taken (more_text ranges) new.taken
