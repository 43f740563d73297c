use Rattle.std.proofs.Common.{List, Bool, ◌<◌, false, get_or, refl, ap, ◌∙◌, length, arith}
use Rattle.std.proofs.lemmas.List.{length-set}
use Rattle.std.specs.Prelude.{true}
use Rattle.pp_wire.specs.Views.{span_of}
use Rattle.pp_outcome.proofs.Gains.{span_none, span_more, span_all}
use Rattle.pp_outcome.proofs.announced.add_span.Goals as goal

pub loop-i-init : goal.loop-i-init
loop-i-init c = record {
  size = refl;
  each = λ k. span_none (span_of c.args.span) c.min-first.result k (get_or c.args.set.now k false) (omega arith);
}

pub loop-i-preserved : goal.loop-i-preserved
loop-i-preserved c =
    let room : c.loop-i.i < length c.loop-i.set = omega arith in record {
      size = ap (λ (xs : List Bool). length xs) c.insert.ensures ∙ length-set c.loop-i.set c.loop-i.i true ∙ c.loop-i.invariant.size;
      each = λ k. ap (λ (xs : List Bool). get_or xs k false) c.insert.ensures
          ∙ span_more (span_of c.args.span) c.args.set.now c.loop-i.set c.loop-i.i (omega arith) (omega arith) room c.loop-i.invariant.each k;
    }

pub returns : goal.returns
returns c = record {
  size = c.loop-i.invariant.size;
  each = λ i lt. c.loop-i.invariant.each i
      ∙ span_all (span_of c.args.span) c.loop-i.i i (get_or c.args.set.now i false) (λ below. omega (arith, lt, below));
}
