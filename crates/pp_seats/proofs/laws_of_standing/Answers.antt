use Rattle.pp_seats.proofs.Composing.{hearing_composes}
use Rattle.pp_seats.proofs.Firsts.{nothing_yet}
use Rattle.pp_seats.proofs.Turnings.{known_changes}
use Rattle.pp_seats.proofs.laws_of_standing.Goals as goal

pub returns-clause-composes : goal.returns-clause-composes
returns-clause-composes c = hearing_composes

pub returns-clause-first : goal.returns-clause-first
returns-clause-first c = nothing_yet

pub returns-clause-known : goal.returns-clause-known
returns-clause-known c = known_changes
