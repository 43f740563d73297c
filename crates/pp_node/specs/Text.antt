-- What a sink is told.
use Rattle.std.specs.Prelude.{◌⊎◌, ℕ, List}
use Rattle.pp_terms.specs.Count.{HasRisen}
use Rattle.pp_terms.specs.command.Stream.{SinkState, Gains}

-- The sink gained this text, or it refused a write.
abbrev pub Says : List ℕ → SinkState → SinkState → Type 0
Says text old new = Gains old.taken text new.taken ⊎ HasRisen old.faults new.faults
