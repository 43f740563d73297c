use Rattle.std.proofs.Common.{arith}
use Rattle.pp_plan.proofs.Over.{over_none}
use Rattle.pp_plan.proofs.tiers.Tiers.clear.Goals as goal

pub invariant_of-self : goal.invariant_of-self
invariant_of-self c = record {
  second_size = omega (arith, c.clear.ensures.len, c.clear-2.ensures.len, c.self.invariant.second_size);
  third_size = omega (arith, c.clear-2.ensures.len, c.clear-3.ensures.len, c.self.invariant.third_size);
  highest_size = omega (arith, c.clear-3.ensures.len, c.self.invariant.highest_size);
  one = c.clear_one.ensures.len;
  second_is = over_none c.clear-2.new.self c.clear.new.self c.clear-2.ensures.none c.clear.ensures.none;
  third_is = over_none c.clear-3.new.self c.clear-2.new.self c.clear-3.ensures.none c.clear-2.ensures.none;
  highest_is = over_none c.clear_one.new.self c.clear-3.new.self c.clear_one.ensures.none c.clear-3.ensures.none;
}
