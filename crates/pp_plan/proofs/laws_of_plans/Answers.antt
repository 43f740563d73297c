use Rattle.pp_plan.proofs.Least.{plans_are_least}
use Rattle.pp_plan.proofs.Stories.{stories_tell}
use Rattle.pp_plan.proofs.Ranges.{stories_are_ranges, cuts_tell_alike}
use Rattle.pp_plan.proofs.laws_of_plans.Goals as goal

pub returns : goal.returns
returns c = record {
  least = plans_are_least;
  stories = stories_tell;
  ranges = stories_are_ranges;
  cuts = cuts_tell_alike;
}
