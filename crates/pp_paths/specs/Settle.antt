-- How a book comes to all peaks of its content's tree by claims (RFC 7574, section 5.6).
use Rattle.std.specs.Prelude.{◌≡◌, ℕ, ◌-◌, cond, Option, Some, None, unwrap_or, List, []}
use Rattle.pp_terms.specs.tree.Tree as tree
use Rattle.pp_terms.specs.tree.Tree.{height}
use Rattle.pp_terms.specs.tree.Book.{LookUp, IsRooted}
use Rattle.pp_terms.specs.format.Descriptor.{Descriptor, chunks_of}
use Rattle.pp_terms.specs.tree.Proves.{first_absent, filled, last_layer, peak_offset}
use Rattle.pp_paths.specs.declared.climbing.Climb.{Climb}
use Rattle.pp_paths.specs.declared.climbing.Climb.TheVariants.{Reached, Lacks}
use Rattle.pp_paths.specs.declared.settling.Settled.{Settled}
use Rattle.pp_paths.specs.declared.settling.Settled.TheVariants.{Known, Missing, Wrong}
use Rattle.pp_paths.specs.Climb.{node_at, or_else, climb, path}
use Rattle.pp_paths.specs.Judge.{same}

-- The book is rooted, for a content of n chunks.
pub record IsRootedFor (n : ℕ) (book : LookUp) : Type 0 where
  pub descriptor : Descriptor
  pub rooted : IsRooted descriptor book
  pub count : chunks_of descriptor ≡ n

-- the digest of the last peak
abbrev pub last_digest : ℕ → LookUp → LookUp → List ℕ
last_digest n book claims = let last = last_layer n in unwrap_or (or_else book claims last (peak_offset last n)) []

-- The climb from the last peak over n chunks, with the empty hash for nodes that cover no chunk. Its siblings are the
-- other peaks, and its nodes those that cover a chunk and aren't full.
abbrev pub climb_of_peaks : ℕ → LookUp → LookUp → Climb
climb_of_peaks n book claims =
    let last = last_layer n in
    climb book (filled n claims) (height n - last) last (peak_offset last n) (last_digest n book claims)

-- the pairs on its way
abbrev pub path_of_peaks : ℕ → LookUp → LookUp → LookUp
path_of_peaks n book claims =
    let last = last_layer n in
    path (filled n claims) (height n - last) last (peak_offset last n) (last_digest n book claims)

-- a peak that is in neither comes first
abbrev pub missing_or : Option tree.Node → Settled → Settled
missing_or None rest = rest
missing_or (Some at) rest = Missing (node_at at.layer at.offset)

-- by the end of the climb: the lowest node of the book that covers a chunk and isn't full
abbrev pub settled_of : Climb → Settled
settled_of (Lacks at) = Missing at
settled_of (Reached at found kept) = cond (same found kept) Known (Wrong found kept)

-- where the book has all peaks nothing is climbed
abbrev pub known_or : Option tree.Node → Settled → Settled
known_or None rest = Known
known_or (Some at) rest = rest

-- The answer for a book and claims over n chunks: all peaks are known, or the leftmost that is in neither, or the two
-- digests at the node of the book that the climb reaches.
abbrev pub settled : ℕ → LookUp → LookUp → Settled
settled n book claims =
    known_or (first_absent book n)
    (missing_or (first_absent (or_else book claims) n) (settled_of (climb_of_peaks n book claims)))

-- two digests differ
abbrev pub IsWrong : Settled → Type 0
IsWrong Known = ⊥
IsWrong (Missing at) = ⊥
IsWrong (Wrong found kept) = Unit {0}
