-- Bytes that are put at a place of a buffer.
use Rattle.std.specs.Prelude.{ℕ, ◌+◌, List, ◌++◌, length, take, drop}

-- the buffer with these bytes at this place, the others as they were
abbrev pub placed : List ℕ → ℕ → List ℕ → List ℕ
placed old at text = take at old ++ text ++ drop (at + length text) old
