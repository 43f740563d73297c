-- What a proof's climbs meet, as a book.
use Rattle.std.specs.Prelude.{ℕ, nat_lt, ◌&&◌, if◌then◌else◌, None, is_some, List}
use Rattle.pp_terms.specs.tree.Book.{LookUp}
use Rattle.pp_terms.specs.tree.Bins.{sibling}
use Rattle.pp_terms.specs.tree.Proves.{filled}
use Rattle.pp_terms.specs.tree.Claims.{met, or_else}
use Rattle.pp_terms.specs.format.Descriptor.{Descriptor, chunks_of, height_of}

-- the siblings of the nodes that the climbs meet below the root: what is claimed, and the empty hash where no chunk is covered
abbrev pub beside_met : Descriptor → (known : LookUp) (i : ℕ) (bytes : List ℕ) → LookUp
beside_met e known i bytes k j =
    if nat_lt k (height_of e) && is_some (met e known i bytes k (sibling j)) then filled (chunks_of e) known k j else None

-- the book of the nodes that the climbs meet, with their siblings
abbrev pub climb_book : Descriptor → (known : LookUp) (i : ℕ) (bytes : List ℕ) → LookUp
climb_book e known i bytes k j = or_else (met e known i bytes k j) (beside_met e known i bytes k j)
