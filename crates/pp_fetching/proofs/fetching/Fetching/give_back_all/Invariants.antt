use Rattle.std.proofs.Common.{take}
use Rattle.std.specs.Prelude.{is_some}
use Rattle.pp_requests.specs.Moments.{asked_at}
use Rattle.pp_fetching.specs.Fetching.{GivesBack}
use Rattle.pp_fetching.proofs.fetching.Fetching.give_back_all.Given as goal

abbrev pub invariant-loop-entry : goal.invariant-loop-entry
invariant-loop-entry l = GivesBack (λ i. is_some (asked_at (take l.entry-index l.entries) i)) l.initial.self l.self
