-- Numbers in bit planes: a word holds one binary digit of each of 64 numbers.
use Rattle.std.specs.Prelude.{ℕ, ◌+◌, ◌*◌, ◌/◌, ◌%◌, List, map, length, slice_index_or}
use Rattle.std.specs.List.{range_with_len}
use Rattle.std.specs.Int.{bit_at}
use Rattle.pp_avail.specs.declared.planes.Planes.{Planes}

-- the number at a place
abbrev pub number_at : Planes → ℕ → ℕ
number_at p k =
    bit_at p.ones k + 2 * bit_at p.twos k + 4 * bit_at p.fours k + 8 * bit_at p.eights k + 16 * bit_at p.sixteens k
    + 32 * bit_at p.thirty_twos k + 64 * bit_at p.sixty_fours k

abbrev pub no_planes : Planes
no_planes = record { ones = 0; twos = 0; fours = 0; eights = 0; sixteens = 0; thirty_twos = 0; sixty_fours = 0 }

-- the numbers of several planes, 64 of each, and 0 past them
abbrev pub number_of : List Planes → ℕ → ℕ
number_of planes i = number_at (slice_index_or planes (i / 64) no_planes) (i % 64)

abbrev pub numbers_of : List Planes → List ℕ
numbers_of planes = map (number_of planes) (range_with_len 0 (64 * length planes))
