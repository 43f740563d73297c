use Rattle.pp_paths.proofs.MetNodes.{proven_is_settled, proven_fits, proven_or_clash}
use Rattle.pp_paths.proofs.Datagrams.{sent_is_enough}
use Rattle.pp_paths.proofs.laws.laws_of_judging.Goals as goal

pub returns-clause-settled : goal.returns-clause-settled
returns-clause-settled c = proven_is_settled

pub returns-clause-fits : goal.returns-clause-fits
returns-clause-fits c = proven_fits

pub returns-clause-clash : goal.returns-clause-clash
returns-clause-clash c = proven_or_clash

pub returns-clause-sent : goal.returns-clause-sent
returns-clause-sent c = sent_is_enough
