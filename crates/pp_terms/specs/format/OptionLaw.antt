-- Laws on the options of a handshake and their spellings.
use Rattle.std.specs.Prelude.{◌≡◌, ◌↔◌, ◌≤◌, ℕ, List, ◌++◌, length, take, Ok}
use Rattle.pp_terms.specs.format.Options.{Options, FitOptions, IsSpelling, IsBytes, spelling_of, read_options}

-- Options are read exactly where a spelling begins the bytes.
abbrev pub ReadsSpellings : Type 0
ReadsSpellings = (bytes : List ℕ) (o : Options) (count : ℕ) → IsBytes bytes
    → (read_options bytes ≡ Ok (o, count)) ↔ ((count ≤ length bytes) × IsSpelling o (take count bytes))

-- No spelling begins another one's, and no bytes spell two lists of options.
abbrev pub OneSpelling : Type 0
OneSpelling = (o other : Options) (text text' rest rest' : List ℕ) → IsSpelling o text → IsSpelling other text'
    → text ++ rest ≡ text' ++ rest' → (text ≡ text') × (o ≡ other)

-- What is spelled by rising codes is read again, whatever follows.
abbrev pub WrittenIsRead : Type 0
WrittenIsRead = (o : Options) (rest : List ℕ) → FitOptions o
    → IsSpelling o (spelling_of o) × (read_options (spelling_of o ++ rest) ≡ Ok (o, length (spelling_of o)))
