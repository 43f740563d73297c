-- The folder of a path.
use Rattle.std.specs.Prelude.{List, ℕ, codes, [], ◌∷◌, Option, Some, None}
use Rattle.std.specs.Path.{path_parent}

-- a path's parent, or "." where that is empty, or "/" for the root
abbrev pub folder : Option (List ℕ) → List ℕ
folder None = codes "/"
folder (Some []) = codes "."
folder (Some (x ∷ xs)) = x ∷ xs

abbrev pub folder_of : List ℕ → List ℕ
folder_of path = folder (path_parent path)
