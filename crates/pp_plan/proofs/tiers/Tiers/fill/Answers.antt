use Rattle.std.proofs.Common.{◌/◌, arith, refl, ◌∙◌}
use Rattle.pp_plan.proofs.Over.{over_more, over_kept}
use Rattle.pp_plan.proofs.tiers.Tiers.fill.Goals as goal

pub invariant_of-self : goal.invariant_of-self
invariant_of-self c = record {
  second_size = omega (arith, c.fill.ensures.len, c.self.invariant.second_size);
  third_size = c.self.invariant.third_size;
  highest_size = c.self.invariant.highest_size;
  one = c.self.invariant.one;
  second_is = over_kept c.self.inside.second c.self.inside.lowest c.fill.new.self c.args.first c.args.last c.requires.order c.self.invariant.second_is c.fill.ensures.bits
      (c.fill.ensures.one c.if-fill.true) (c.fill.ensures.before c.if-fill.true);
  third_is = c.self.invariant.third_is;
  highest_is = c.self.invariant.highest_is;
}

pub invariant_of-self-then-fill-2 : goal.invariant_of-self-then-fill-2
invariant_of-self-then-fill-2 c = record {
  second_size = omega (arith, c.fill.ensures.len, c.fill-2.ensures.len, c.self.invariant.second_size);
  third_size = omega (arith, c.fill-2.ensures.len, c.self.invariant.third_size);
  highest_size = c.self.invariant.highest_size;
  one = c.self.invariant.one;
  second_is = over_more c.self.inside.second c.self.inside.lowest c.fill-2.new.self c.fill.new.self c.args.first c.args.last (c.args.first / 64) (c.args.last / 64)
      c.requires.order refl refl c.self.invariant.second_is c.fill.ensures.bits c.fill-2.ensures.bits;
  third_is = over_kept c.self.inside.third c.self.inside.second c.fill-2.new.self (c.args.first / 64) (c.args.last / 64) (omega (arith, c.requires.order)) c.self.invariant.third_is
      c.fill-2.ensures.bits (c.fill-2.ensures.one c.if-fill-2.true) (c.fill-2.ensures.before c.if-fill-2.true);
  highest_is = c.self.invariant.highest_is;
}

pub invariant_of-self-then-fill-3 : goal.invariant_of-self-then-fill-3
invariant_of-self-then-fill-3 c = record {
  second_size = omega (arith, c.fill.ensures.len, c.fill-2.ensures.len, c.self.invariant.second_size);
  third_size = omega (arith, c.fill-2.ensures.len, c.fill-3.ensures.len, c.self.invariant.third_size);
  highest_size = omega (arith, c.fill-3.ensures.len, c.self.invariant.highest_size);
  one = c.self.invariant.one;
  second_is = over_more c.self.inside.second c.self.inside.lowest c.fill-2.new.self c.fill.new.self c.args.first c.args.last (c.args.first / 64) (c.args.last / 64)
      c.requires.order refl refl c.self.invariant.second_is c.fill.ensures.bits c.fill-2.ensures.bits;
  third_is = over_more c.self.inside.third c.self.inside.second c.fill-3.new.self c.fill-2.new.self (c.args.first / 64) (c.args.last / 64) (c.args.first / 4096) (c.args.last / 4096)
      (omega (arith, c.requires.order)) (omega arith) (omega arith) c.self.invariant.third_is c.fill-2.ensures.bits c.fill-3.ensures.bits;
  highest_is = over_kept c.self.inside.highest c.self.inside.third c.fill-3.new.self (c.args.first / 4096) (c.args.last / 4096) (omega (arith, c.requires.order)) c.self.invariant.highest_is
      c.fill-3.ensures.bits (c.fill-3.ensures.one c.if-fill-3.true) (c.fill-3.ensures.before c.if-fill-3.true);
}

pub invariant_of-self-2 : goal.invariant_of-self-2
invariant_of-self-2 c = record {
  second_size = omega (arith, c.fill.ensures.len, c.fill-2.ensures.len, c.self.invariant.second_size);
  third_size = omega (arith, c.fill-2.ensures.len, c.fill-3.ensures.len, c.self.invariant.third_size);
  highest_size = omega (arith, c.fill-3.ensures.len, c.self.invariant.highest_size);
  one = c.fill-4.ensures.len ∙ c.self.invariant.one;
  second_is = over_more c.self.inside.second c.self.inside.lowest c.fill-2.new.self c.fill.new.self c.args.first c.args.last (c.args.first / 64) (c.args.last / 64)
      c.requires.order refl refl c.self.invariant.second_is c.fill.ensures.bits c.fill-2.ensures.bits;
  third_is = over_more c.self.inside.third c.self.inside.second c.fill-3.new.self c.fill-2.new.self (c.args.first / 64) (c.args.last / 64) (c.args.first / 4096) (c.args.last / 4096)
      (omega (arith, c.requires.order)) (omega arith) (omega arith) c.self.invariant.third_is c.fill-2.ensures.bits c.fill-3.ensures.bits;
  highest_is = over_more c.self.inside.highest c.self.inside.third c.fill-4.new.self c.fill-3.new.self (c.args.first / 4096) (c.args.last / 4096) (c.args.first / 262144) (c.args.last / 262144)
      (omega (arith, c.requires.order)) (omega arith) (omega arith) c.self.invariant.highest_is c.fill-3.ensures.bits c.fill-4.ensures.bits;
}
