-- Worked examples: the name of a store and the address of a link, where a device tells them, and books of a descriptor.
use Rattle.std.specs.Prelude.{◌≡◌, Some, None, List, ℕ, [], ◌∷◌, replicate}
use Rattle.pp_terms.specs.Example.{abc}
use Rattle.pp_terms.specs.disk.Disk.{GainsName}
use Rattle.pp_terms.specs.format.Traffic.{Address, V4, V6, GainsAddress}
use Rattle.pp_tree.specs.Book.{BookState, empty_book, chunks_in_book, IsBookOf}

-- the names `a` and `bc`, and two addresses
abbrev pub first_name : List ℕ
first_name = 97 ∷ []

abbrev pub second_name : List ℕ
second_name = 98 ∷ 99 ∷ []

abbrev pub home : Address
home = V4 (127 ∷ 0 ∷ 0 ∷ 1 ∷ []) 7001

abbrev pub abroad : Address
abroad = V6 (replicate 16 0) 7001

-- A disk that tells names tells the one under which a store was attached before the older ones, and no other; one that tells
-- none goes on telling none. So does a link of addresses.
pub record NameExamples : Type 0 where
  pub told : GainsName (Some (second_name ∷ [])) first_name (Some (first_name ∷ second_name ∷ []))
  pub other : GainsName (Some []) first_name (Some (second_name ∷ [])) → ⊥
  pub none : GainsName (Some []) first_name (Some []) → ⊥
  pub untold : GainsName None first_name None
  pub bound : GainsAddress (Some []) home (Some (home ∷ []))
  pub elsewhere : GainsAddress (Some []) home (Some (abroad ∷ [])) → ⊥

-- a book with the root of `abc` alone
abbrev pub book_of_abc : BookState
book_of_abc = record { descriptor = Some abc; cells = Some abc.root ∷ [] }

-- A book that wasn't prepared is no descriptor's, and has no chunks.
pub record BookExamples : Type 0 where
  pub one : chunks_in_book book_of_abc ≡ 1
  pub unprepared : chunks_in_book empty_book ≡ 0
  pub no_book : IsBookOf abc empty_book → ⊥
