-- A sink in memory: the bytes that it took, and whether it is to refuse the next write.
use Rattle.std.specs.Prelude.{Bool, Some}
use Rattle.pp_terms.specs.command.Stream.{SinkState}
use Rattle.pp_outside.specs.declared.memory_sink.MemorySink.{MemorySink}

abbrev pub state_of : MemorySink → SinkState
state_of sink = record { taken = Some sink.bytes.items; faults = sink.faults }

-- the next write is to be refused
abbrev pub is_ordered : MemorySink → Bool
is_ordered sink = sink.refuses
