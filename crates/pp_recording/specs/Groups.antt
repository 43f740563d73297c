-- The groups of an IPv6 address, as far as they are written.
use Rattle.std.specs.Prelude.{ℕ, zero, suc, ◌+◌, ◌*◌, ◌==◌, if◌then◌else◌, List, [], ◌++◌, codes, slice_index}
use Rattle.std.specs.Net.Text.{hex}

-- the first n groups with colons between them
abbrev pub first_groups : List ℕ → ℕ → List ℕ
first_groups bytes zero = []
first_groups bytes (suc n) =
    first_groups bytes n ++ (if n == 0 then [] else codes ":") ++ hex (slice_index bytes (2 * n) * 256 + slice_index bytes (2 * n + 1))
