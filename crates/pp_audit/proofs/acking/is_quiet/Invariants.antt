use Rattle.std.proofs.Common.{◌≡◌}
use Rattle.pp_promises.specs.LastTurn.{last_event, is_quiet}
use Rattle.pp_recorded.proofs.Pasts.{first}
use Rattle.pp_audit.proofs.acking.is_quiet.Given as goal

abbrev pub invariant-loop-entry : goal.invariant-loop-entry
invariant-loop-entry l = l.quiet ≡ is_quiet (last_event (first l.entry-index l.entries))
