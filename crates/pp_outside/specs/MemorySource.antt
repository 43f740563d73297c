-- A source in memory: the bytes still to come, and whether it fails at their end.
use Rattle.std.specs.Prelude.{ℕ, Bool, Some, List}
use Rattle.pp_terms.specs.command.Stream.{SourceState}
use Rattle.pp_outside.specs.declared.memory_source.MemorySource.{MemorySource}

-- the bytes still to come
abbrev pub left_of : MemorySource → List ℕ
left_of source = source.left.now

abbrev pub state_of : MemorySource → SourceState
state_of source = record { left = Some (left_of source); faults = source.faults }

-- at its end a read into some room is refused, in place of 0
abbrev pub fails_at_end : MemorySource → Bool
fails_at_end source = source.fails
