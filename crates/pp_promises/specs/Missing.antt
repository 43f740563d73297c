-- Whether a set of committed chunks is the whole content, and the line of a fetch that ends without the whole.
use Rattle.std.specs.Prelude.{◌≡◌, ℕ, ◌<◌, Bool, true, false, List, ◌++◌, length, codes, decimal, count_by}
use Rattle.pp_terms.specs.command.Report.{line, held_line, AreRanges}
use Rattle.pp_terms.specs.command.Stream.{SinkState, Gains}
use Rattle.pp_terms.specs.command.Tally.{Tally, tally_text}
use Rattle.pp_terms.specs.format.Descriptor.{Descriptor, chunks_of}
use Rattle.pp_terms.specs.tree.Range.{Span}
use Rattle.pp_traffic.specs.Committed.{is_in}

-- Every chunk of the content is in the set.
abbrev pub IsComplete : Descriptor → List Bool → Type 0
IsComplete d committed = (i : ℕ) → i < chunks_of d → is_in committed i ≡ true

-- A chunk isn't in it, and each before that one is.
pub record IsFirstMissing (d : Descriptor) (committed : List Bool) (i : ℕ) : Type 0 where
  pub below : i < chunks_of d
  pub missing : is_in committed i ≡ false
  pub none_before : (j : ℕ) → j < i → is_in committed j ≡ true

-- the first chunk that is missing
unfoldable pub incomplete_line : ℕ → List ℕ
incomplete_line i = line (codes "incomplete: first missing chunk " ++ decimal i)

-- The sink gained the line of a set of chunks, a line for each count, and that of the first missing chunk.
pub record SaysIncomplete (committed : List Bool) (tally : Tally) (first : ℕ) (old new : SinkState) : Type 0 where
  pub ranges : List Span
  pub are : AreRanges committed ranges
  pub gained : Gains old.taken
      (held_line (count_by (λ b. b) committed) (length committed) ranges ++ tally_text tally ++ incomplete_line first) new.taken
