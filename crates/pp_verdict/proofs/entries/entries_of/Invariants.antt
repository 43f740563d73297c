use Rattle.std.proofs.Common.{◌≡◌, map, take}
use Rattle.pp_recorded.specs.Entries.{record_of}
use Rattle.pp_recording.specs.State as terms
use Rattle.pp_verdict.proofs.entries.entries_of.Given as goal

abbrev pub invariant-loop-n : goal.invariant-loop-n
invariant-loop-n l = map record_of l.entries.items ≡ map (terms.record_of l.recording.bytes) (take l.n l.recording.entries)
