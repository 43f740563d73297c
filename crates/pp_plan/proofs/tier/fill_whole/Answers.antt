use Rattle.std.proofs.Common.{◌≡◌, ◌+◌, ◌*◌, ◌≤◌, nat_le, nat_lt, false, ◌&&◌, ◌||◌, length, refl, sym, ◌∙◌, ap, arith}
use Rattle.std.proofs.lemmas.Bool.Decides.{nat_tests}
use Rattle.std.proofs.Math.Bool.{or-false}
use Rattle.pp_tree.specs.Bits.{bit_of}
use Rattle.pp_plan.proofs.Words.{full_bit, passed_on, one_more}
use Rattle.pp_plan.proofs.tier.fill_whole.Goals as goal

pub loop-w-init : goal.loop-w-init
loop-w-init c = record {
  low = c.next_until-w.ensures.low;
  high = c.next_until-w.ensures.high;
  len = refl;
  lacks = c.requires.lacks;
  bits = λ i.
      let none : (nat_le (64 * c.args.low) i && nat_lt i (64 * c.args.low)) ≡ false = grind (arith, nat_tests) in
      passed_on (bit_of c.args.words.now i) (bit_of c.args.words.now i) c.args.low c.args.low c.next_until-w.result i (omega arith) c.next_until-w.ensures.low
      (sym (or-false (bit_of c.args.words.now i)) ∙ ap (λ b. bit_of c.args.words.now i || b) (sym none))
      (full_bit c.args.words.now c.args.lacks.now c.args.low c.next_until-w.result i c.requires.lacks (omega (arith, c.requires.inside, c.next_until-w.ensures.high)) c.next_until-w.ensures.none);
}

pub loop-w-preserved : goal.loop-w-preserved
loop-w-preserved c =
    let on : c.loop-w.w + 1 ≤ c.next_until-w-in-loop-w.result = c.next_until-w-in-loop-w.ensures.low in
    let size : length c.fill_part.new.words ≡ length c.args.words.now = c.fill_part.ensures.len ∙ c.loop-w.invariant.len in
    record {
      low = omega (arith, on, c.loop-w.invariant.low);
      high = c.next_until-w-in-loop-w.ensures.high;
      len = size;
      lacks = c.fill_part.ensures.lacks;
      bits = λ i. passed_on (bit_of c.fill_part.new.words i) (bit_of c.args.words.now i) c.args.low (c.loop-w.w + 1) c.next_until-w-in-loop-w.result i
          (omega (arith, c.loop-w.invariant.low)) on
          (one_more (bit_of c.fill_part.new.words i) (bit_of c.loop-w.words i) (bit_of c.args.words.now i) c.args.low c.loop-w.w i c.loop-w.invariant.low
          (c.fill_part.ensures.bits i) (c.loop-w.invariant.bits i))
          (full_bit c.fill_part.new.words c.fill_part.new.lacks (c.loop-w.w + 1) c.next_until-w-in-loop-w.result i c.fill_part.ensures.lacks
          (omega (arith, size, c.requires.inside, c.next_until-w-in-loop-w.ensures.high)) c.next_until-w-in-loop-w.ensures.none);
    }
