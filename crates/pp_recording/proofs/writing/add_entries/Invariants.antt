use Rattle.std.proofs.Common.{◌≡◌, ◌++◌, take}
use Rattle.pp_recording.specs.Recording.{records_text}
use Rattle.pp_recording.specs.State.{records_of}
use Rattle.pp_recording.proofs.writing.add_entries.Given as goal

abbrev pub invariant-loop-n : goal.invariant-loop-n
invariant-loop-n l = l.text.items ≡ l.initial.text.items ++ records_text (records_of l.bytes (take l.n l.entries))
