-- The lines that the program writes, each ended by a line feed.
use Rattle.std.specs.Prelude.{◌≡◌, ℕ, Bool, false, List, [], ◌∷◌, ◌++◌, length, codes, decimal, count_by, slice_index_or}
use Rattle.pp_terms.specs.tree.Range.{Span, has, IsRunsFrom}
use Rattle.pp_terms.specs.format.Descriptor.{Descriptor, descriptor_text}
use Rattle.pp_terms.specs.command.Stream.{SinkState, Gains}
use Rattle.pp_terms.specs.command.Tally.{Tally, tally_text}

abbrev pub line : List ℕ → List ℕ
line text = text ++ 10 ∷ []

-- the descriptor of a new store
unfoldable pub descriptor_line : Descriptor → List ℕ
descriptor_line d = line (descriptor_text d)

unfoldable pub disk_fault_line : List ℕ
disk_fault_line = line (codes "disk fault")

unfoldable pub link_fault_line : List ℕ
link_fault_line = line (codes "link fault")

unfoldable pub source_fault_line : List ℕ
source_fault_line = line (codes "source fault")

-- a disk that isn't empty, and its length
unfoldable pub not_empty_line : ℕ → List ℕ
not_empty_line n = line (codes "not empty: " ++ decimal n ++ codes " bytes")

-- a content that is no content of a swarm, and how many bytes of it were read
unfoldable pub content_size_line : ℕ → List ℕ
content_size_line n = line (codes "content size: " ++ decimal n ++ codes " bytes")

-- the first byte of a file that isn't the header's: its place, what it is, and what was wanted
unfoldable pub not_a_store_line : ℕ → ℕ → ℕ → List ℕ
not_a_store_line at found want =
    line (codes "not a store: byte " ++ decimal at ++ codes " is " ++ decimal found ++ codes ", wanted " ++ decimal want)

-- a range, both ends included
abbrev pub span_text : Span → List ℕ
span_text span = decimal span.first ++ codes "-" ++ decimal span.last

-- ranges, each with a comma before it
abbrev pub more_text : List Span → List ℕ
more_text [] = []
more_text (x ∷ xs) = codes "," ++ span_text x ++ more_text xs

-- ranges with commas between them, or `none`
abbrev pub ranges_text : List Span → List ℕ
ranges_text [] = codes "none"
ranges_text (x ∷ xs) = span_text x ++ more_text xs

-- how many chunks are held, of how many, and which
unfoldable pub held_line : ℕ → ℕ → List Span → List ℕ
held_line held chunks ranges = line (codes "held " ++ decimal held ++ codes " of " ++ decimal chunks ++ codes " " ++ ranges_text ranges)

-- These are the ranges of the set's numbers, in rising order, with a number left out between any two.
pub record AreRanges (set : List Bool) (ranges : List Span) : Type 0 where
  pub runs : IsRunsFrom 0 ranges
  pub same : (i : ℕ) → has ranges i ≡ slice_index_or set i false

-- The sink gained the line of a set of chunks.
pub record SaysHeld (set : List Bool) (old new : SinkState) : Type 0 where
  pub ranges : List Span
  pub are : AreRanges set ranges
  pub gained : Gains old.taken (held_line (count_by (λ b. b) set) (length set) ranges) new.taken

-- The sink gained the line of a set of chunks and a line for each count.
pub record SaysReport (set : List Bool) (tally : Tally) (old new : SinkState) : Type 0 where
  pub ranges : List Span
  pub are : AreRanges set ranges
  pub gained : Gains old.taken (held_line (count_by (λ b. b) set) (length set) ranges ++ tally_text tally) new.taken
