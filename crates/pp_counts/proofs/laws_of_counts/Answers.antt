use Rattle.pp_counts.proofs.Raises.{notes_raise_one_count, notes_add_up}
use Rattle.pp_counts.proofs.laws_of_counts.Goals as goal

pub returns-clause-one : goal.returns-clause-one
returns-clause-one c = notes_raise_one_count

pub returns-clause-added : goal.returns-clause-added
returns-clause-added c = notes_add_up
