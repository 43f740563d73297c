use Rattle.pp_promises.proofs.Growth.{reads_grow, contradictions_stay, acknowledged_stays}
use Rattle.pp_promises.proofs.laws_of_turns.Goals as goal

pub returns-clause-reads : goal.returns-clause-reads
returns-clause-reads c = reads_grow

pub returns-clause-contradictions : goal.returns-clause-contradictions
returns-clause-contradictions c = contradictions_stay

pub returns-clause-acknowledged : goal.returns-clause-acknowledged
returns-clause-acknowledged c = acknowledged_stays
