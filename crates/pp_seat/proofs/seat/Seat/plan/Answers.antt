use Rattle.std.proofs.Common.{sym}
use Rattle.pp_plan.specs.Told.{knows}
use Rattle.pp_seat.proofs.Answering.{whole_path, plan_at}
use Rattle.pp_seat.proofs.seat.Seat.plan.Goals as goal

pub returns-clause-whole : goal.returns-clause-whole
returns-clause-whole c f lost t brought =
    rw (← c.self.view_is)
    (λ h all. whole_path f lost c.args.i c.chunks.result _ t brought _ (sym c.chunks.ensures.value) (c.plan.ensures.least brought) h all)

pub returns-clause-nodes : goal.returns-clause-nodes
returns-clause-nodes c = rw (← c.self.view_is) (plan_at _ _ c.args.i (knows c.self.inside.told) _ c.plan.ensures.nodes c.chunks.ensures.value)
