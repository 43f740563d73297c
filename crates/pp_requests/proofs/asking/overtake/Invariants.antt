use Rattle.std.proofs.Common.{◌≡◌, ◌++◌, take, drop, map}
use Rattle.pp_requests.specs.Moments.{overtaken_by}
use Rattle.pp_requests.proofs.asking.overtake.Given as goal

abbrev pub invariant-loop-entry : goal.invariant-loop-entry
invariant-loop-entry l =
    l.entries ≡ map (overtaken_by l.answered) (take l.entry-index l.initial.entries) ++ drop l.entry-index l.initial.entries
