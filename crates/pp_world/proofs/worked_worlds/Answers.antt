use Rattle.pp_world.proofs.KeptExamples.{kept_examples}
use Rattle.pp_world.proofs.OutcomeExample.{outcome_examples}
use Rattle.pp_world.proofs.WorldExamples.{small_worlds, act_examples}
use Rattle.pp_world.proofs.worked_worlds.Goals as goal

pub returns-clause-small : goal.returns-clause-small
returns-clause-small c = small_worlds

pub returns-clause-acts : goal.returns-clause-acts
returns-clause-acts c = act_examples

pub returns-clause-kept : goal.returns-clause-kept
returns-clause-kept c = kept_examples

pub returns-clause-outcome : goal.returns-clause-outcome
returns-clause-outcome c = outcome_examples
