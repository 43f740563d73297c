use Rattle.pp_promises.proofs.KeptRuns.{kept}
use Rattle.pp_promises.proofs.kept_promises.Goals as goal

pub returns : goal.returns
returns c = kept
