-- Counts of refused calls, and the meaning of a source and a sink that tell nothing else.
use Rattle.std.specs.Prelude.{ℕ, ◌+◌, ◌-◌, ◌^◌, min, None}
use Rattle.pp_terms.specs.command.Stream.{SourceState, SinkState}

-- a count after one refused call more: it stands still at the greatest number of 64 bits
abbrev pub raised : ℕ → ℕ
raised n = min (n + 1) (2 ^ 64 - 1)

-- What is known of it may be more than it tells.
abbrev pub silent_source : SourceState → SourceState
silent_source s = record { left = None; faults = s.faults }

abbrev pub silent_sink : SinkState → SinkState
silent_sink s = record { taken = None; faults = s.faults }
