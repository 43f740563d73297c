use Rattle.std.proofs.Common.{◌≡◌, ◌-◌, suc, sym, ◌∙◌, arith}
use Rattle.pp_wire.specs.Views.{span_of}
use Rattle.pp_recorded.proofs.ClaimedNodes.{found_below, passed_below, none_below}
use Rattle.pp_recorded.proofs.claims.node_below.Goals as goal

pub returns-then-is_span_of : goal.returns-then-is_span_of
returns-then-is_span_of c =
    sym (c.layers.invariant.same
    ∙ found_below c.layers.layer (c.layers.layer - 1) (span_of c.args.span) (let e : c.layers.layer ≡ suc (c.layers.layer - 1) = omega arith in e)
    (sym c.is_span_of.ensures ∙ c.if-is_span_of.true))

pub layers-preserved : goal.layers-preserved
layers-preserved c = record {
  low = (let low = c.layers.invariant.low in omega (arith, low));
  same = c.layers.invariant.same
      ∙ passed_below c.layers.layer (c.layers.layer - 1) (span_of c.args.span) (let e : c.layers.layer ≡ suc (c.layers.layer - 1) = omega arith in e)
      (sym c.is_span_of.ensures ∙ c.if-is_span_of.false);
}

pub returns : goal.returns
returns c = sym (c.layers.invariant.same ∙ none_below c.layers.layer (span_of c.args.span) c.layers-test.false)
