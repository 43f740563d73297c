use Rattle.pp_promises.proofs.ReadStories.{answers_are_read, plains_are_read, chokes_are_read, read_tells, read_asks, owed_is_asked}
use Rattle.pp_promises.proofs.Meters.{meters_agree}
use Rattle.pp_promises.proofs.Batches.{batches_are_in_time}
use Rattle.pp_promises.proofs.laws_of_promises.Goals as goal

pub returns-clause-answers : goal.returns-clause-answers
returns-clause-answers c = answers_are_read

pub returns-clause-chokes : goal.returns-clause-chokes
returns-clause-chokes c = chokes_are_read

pub returns-clause-told : goal.returns-clause-told
returns-clause-told c = read_tells

pub returns-clause-asked : goal.returns-clause-asked
returns-clause-asked c = read_asks

pub returns-clause-owed : goal.returns-clause-owed
returns-clause-owed c = owed_is_asked

pub returns-clause-batches : goal.returns-clause-batches
returns-clause-batches c = batches_are_in_time

pub returns-clause-plains : goal.returns-clause-plains
returns-clause-plains c = plains_are_read

pub returns-clause-meters : goal.returns-clause-meters
returns-clause-meters c = meters_agree
