-- What a peer knows when a chunk comes behind some messages.
use Rattle.std.specs.Prelude.{ℕ, Bool, true, false, ◌||◌, if◌then◌else◌, Option, Some, None, List, take}
use Rattle.std.specs.List.{list_all}
use Rattle.pp_terms.specs.format.Traffic.{Record}
use Rattle.pp_terms.specs.tree.Tree.{Node, peaks, is_peak}
use Rattle.pp_terms.specs.tree.Bins.{sibling_of}
use Rattle.pp_terms.specs.format.Descriptor.{Descriptor, chunks_of}
use Rattle.pp_traffic.specs.Life.{Life}
use Rattle.pp_traffic.specs.Story.{story}
use Rattle.pp_traffic.specs.Hashes as terms
use Rattle.pp_recorded.specs.Parts.{all}

-- what the first messages of a datagram bring, so many
abbrev pub brought : Descriptor → List ℕ → ℕ → Node → Bool
brought d bytes count = terms.brings (take count (all d bytes))

abbrev pub told : Descriptor → Life → List Record → Node → Bool
told d life past = terms.is_told (chunks_of d) (story d life past)

-- a node that is one or the other
abbrev pub known : Descriptor → Life → List Record → List ℕ → ℕ → Node → Bool
known d life past bytes count n = brought d bytes count n || told d life past n

-- One node of the way up: the path is complete there, or is not; or the way goes on.
abbrev pub climb_of : ℕ → (Node → Bool) → (Node → Bool) → Node → Option Bool
climb_of chunks brought told n =
    if told n then Some true else
    (if is_peak chunks n then Some (list_all (λ p. brought p || told p) (peaks chunks)) else
    (if brought (sibling_of n) || told (sibling_of n) then None else Some false))

abbrev pub settled : Option Bool → Bool → Bool
settled None more = more
settled (Some answer) more = answer
