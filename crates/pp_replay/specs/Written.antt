-- The bytes that pairs of hexadecimal digits write.
use Rattle.std.specs.Prelude.{ℕ, List, [], unwrap_or}
use Rattle.pp_world.specs.ScheduleRead.{bytes_of}

-- the bytes, or none where the word isn't of such pairs
abbrev pub bytes_in : List ℕ → List ℕ
bytes_in word = unwrap_or (bytes_of word) []
