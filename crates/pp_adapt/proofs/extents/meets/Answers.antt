use Rattle.std.proofs.Common.{◌∙◌, arith}
use Rattle.pp_adapt.proofs.extents.meets.Goals as goal
use Rattle.pp_adapt.proofs.Joins.{nothing, met_at, not_met_at}

pub returns-then-max-min-clause-met : goal.returns-then-max-min-clause-met
returns-then-max-min-clause-met c = (
  c.max.result,
  omega arith,
  omega arith,
  c.loop-extent.invariant c.max.result (omega arith) (omega arith)
      ∙ met_at c.args.extents.now c.loop-extent.extent-index c.max.result nothing (omega arith) (omega arith) (omega arith),
)

pub loop-extent-preserved : goal.loop-extent-preserved
loop-extent-preserved c = λ k from below.
    c.loop-extent.invariant k from below
    ∙ not_met_at c.args.extents.now c.loop-extent.extent-index k nothing (omega arith) (grind arith)
