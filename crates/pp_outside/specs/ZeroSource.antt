-- A source of zeros.
use Rattle.std.specs.Prelude.{ℕ, Some, List, replicate}
use Rattle.pp_terms.specs.command.Stream.{SourceState}
use Rattle.pp_outside.specs.declared.zero_source.ZeroSource.{ZeroSource}

-- how many zeros are still to come
abbrev pub count_of : ZeroSource → ℕ
count_of source = source.left

-- zeros, as many as the number says (never computed: there may be 2^64 of them)
unfoldable pub zeros : ℕ → List ℕ
zeros n = replicate n 0

abbrev pub state_of : ZeroSource → SourceState
state_of source = record { left = Some (zeros (count_of source)); faults = 0 }
