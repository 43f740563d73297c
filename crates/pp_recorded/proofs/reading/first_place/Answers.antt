use Rattle.pp_recorded.proofs.Messages.{all_from}
use Rattle.pp_recorded.proofs.FaultSteps.{fault_first}
use Rattle.pp_recorded.proofs.reading.first_place.Goals as goal

pub returns-clause-all : goal.returns-clause-all
returns-clause-all c = λ d. all_from d c.args.bytes.now c.min.result c.min.ensures

pub returns-clause-fault : goal.returns-clause-fault
returns-clause-fault c = λ d. fault_first d c.args.bytes.now c.min.result c.min.ensures
