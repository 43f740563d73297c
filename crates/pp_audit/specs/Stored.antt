-- Whether every record's chunks are stored, as a test.
use Rattle.std.specs.Prelude.{Bool, true, not, ◌&&◌, ◌||◌, List, [], ◌∷◌}
use Rattle.pp_terms.specs.format.Descriptor.{Descriptor}
use Rattle.pp_terms.specs.format.Traffic.{Record}
use Rattle.pp_terms.specs.tree.Book.{LookUp}
use Rattle.pp_audit.specs.Channels.{passes_openings}
use Rattle.pp_recorded.specs.PlainTests.{is_plain_newest}
use Rattle.pp_audit.specs.Storings.{stores_newest}

-- on each channel that is plain up to the newest record; and of the records before it
abbrev pub stores_all : Descriptor → LookUp → List Bool → List Record → Bool
stores_all d book held [] = true
stores_all d book held (r ∷ before) =
    passes_openings (λ life. not (is_plain_newest d life (r ∷ before)) || stores_newest d book held (r ∷ before) life)
    d (r ∷ before) (r ∷ before)
    && stores_all d book held before
