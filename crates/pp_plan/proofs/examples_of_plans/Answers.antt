use Rattle.std.proofs.Common.{refl}
use Rattle.pp_terms.specs.tree.Tree.{height}
use Rattle.pp_plan.proofs.examples_of_plans.Goals as goal

pub returns : goal.returns
unfolding height
returns c = record { first = refl; last = refl; next = refl; third = refl; cut = (refl, refl, refl) }
