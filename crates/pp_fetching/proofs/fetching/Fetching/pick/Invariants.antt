use Rattle.pp_fetching.proofs.Picked.{IsPickedTo}
use Rattle.pp_fetching.proofs.fetching.Fetching.pick.Given as goal

abbrev pub invariant-loop-taken : goal.invariant-loop-taken
invariant-loop-taken g l = IsPickedTo l.ranker.kind l.seat l._taken l.initial.self l.picks l.self
