use Rattle.pp_sessions.proofs.Seen.{seen_from_opening}
use Rattle.pp_sessions.proofs.Sessions.{turns_keep, stops_keep}
use Rattle.pp_sessions.proofs.laws_of_sessions.Goals as goal

pub returns-clause-turns : goal.returns-clause-turns
returns-clause-turns c = turns_keep

pub returns-clause-stops : goal.returns-clause-stops
returns-clause-stops c = stops_keep

pub returns-clause-seen : goal.returns-clause-seen
returns-clause-seen c = seen_from_opening
