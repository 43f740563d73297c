use Rattle.std.proofs.Common.{arith}
use Rattle.pp_store.proofs.RunSteps.{slots_fit}
use Rattle.pp_store.proofs.runs.fitting_slots.Goals as goal

pub returns-clause-fits : goal.returns-clause-fits
returns-clause-fits c = slots_fit _ c.args.room c.args.chunk c.requires.fits (omega (arith, c.min.ensures))
