use Rattle.pp_complete.proofs.Completing.{completed_is_settled, completed_fits}
use Rattle.pp_complete.proofs.laws_of_completion.Goals as goal

pub returns-clause-settled : goal.returns-clause-settled
returns-clause-settled c = completed_is_settled

pub returns-clause-fits : goal.returns-clause-fits
returns-clause-fits c = completed_fits
