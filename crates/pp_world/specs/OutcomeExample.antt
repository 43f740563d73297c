-- The smallest outcome: two peers that were started, and to which nothing happened.
use Rattle.std.specs.Prelude.{false, [], ◌∷◌}
use Rattle.pp_world.specs.Outcome.{PeerEnd, RunPromise, IsOutcome}
use Rattle.pp_world.specs.Schedule.{Schedule}
use Rattle.pp_world.specs.WorldExamples.{small, opened_peer, end_of}

abbrev pub unmoved : Schedule
unmoved = record small { steps = [] }

-- no promise on a run; that of served chunks and of rooted books stays
abbrev pub no_promise : RunPromise
no_promise d role run = Unit {0}

-- one opening, nothing announced, and the one chunk isn't held
abbrev pub opened_end : PeerEnd
opened_end = end_of opened_peer 1 0 (false ∷ [])

pub record OutcomeExamples : Type 0 where
  pub unmoved_peers : IsOutcome no_promise unmoved (opened_end ∷ opened_end ∷ [])
  -- a peer is missing
  pub one_peer : IsOutcome no_promise unmoved (opened_end ∷ []) → ⊥
