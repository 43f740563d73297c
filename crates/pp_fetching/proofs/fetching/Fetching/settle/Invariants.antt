use Rattle.std.proofs.Common.{take, not, ◌&&◌}
use Rattle.std.specs.Prelude.{is_some}
use Rattle.pp_terms.specs.tree.Range.{has}
use Rattle.pp_requests.specs.Moments.{asked_at}
use Rattle.pp_fetching.specs.Fetching.{GivesBack}
use Rattle.pp_fetching.proofs.fetching.Fetching.settle.Given as goal

abbrev pub invariant-loop-n : goal.invariant-loop-n
invariant-loop-n l = GivesBack (λ i. has (take l.n l.picks) i && not (is_some (asked_at l.seat.own i))) l.initial.self l.self
