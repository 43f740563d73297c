use Rattle.std.proofs.Common.{◌≡◌, ◌++◌}
use Rattle.pp_recording.specs.Groups.{first_groups}
use Rattle.pp_recording.proofs.spelling.add_groups.Given as goal

abbrev pub invariant-loop-at : goal.invariant-loop-at
invariant-loop-at l = l.text.items ≡ l.initial.text.items ++ first_groups l.bytes l.at
