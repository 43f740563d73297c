use Rattle.std.proofs.Common.{◌≡◌}
use Rattle.pp_traffic.specs.Past as terms
use Rattle.pp_recorded.proofs.Pasts.{first}
use Rattle.pp_recorded.proofs.silence.now.Given as goal

abbrev pub invariant-loop-entry : goal.invariant-loop-entry
invariant-loop-entry l = l.now ≡ terms.now (first l.entry-index l.entries)
