use Rattle.pp_audit.proofs.KeptTurnRuns.{kept_turns}
use Rattle.pp_audit.proofs.laws.kept_turns.Goals as goal

pub returns : goal.returns
returns c = kept_turns
