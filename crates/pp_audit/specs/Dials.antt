-- Which addresses were missed, each counted once.
use Rattle.std.specs.Prelude.{Bool, not, ◌&&◌, if◌then◌else◌, List, [], ◌∷◌}
use Rattle.std.specs.List.{list_any}
use Rattle.pp_terms.specs.format.Traffic.{Address, same_address, Record}
use Rattle.pp_terms.specs.format.Descriptor.{Descriptor}
use Rattle.pp_traffic.specs.Past.{comes_from}
use Rattle.pp_promises.specs.Asked.{dials}

-- nothing was sent to it that opens a channel, and nothing came from it
abbrev pub missed : Descriptor → List Record → Address → Bool
missed d past a = not (list_any (dials d a) past) && not (list_any (comes_from a) past)

abbrev pub misses : Descriptor → List Record → List Address → List Address
misses d past [] = []
misses d past (a ∷ rest) =
    if missed d past a && not (list_any (same_address a) rest) then a ∷ misses d past rest else misses d past rest
