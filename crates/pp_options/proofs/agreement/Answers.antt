use Rattle.pp_terms.proofs.Agreeing.{none_differs}
use Rattle.pp_options.proofs.agreement.Goals as goal

pub returns : goal.returns
returns c = none_differs
