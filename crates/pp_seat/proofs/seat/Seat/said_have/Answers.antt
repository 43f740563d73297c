use Rattle.std.proofs.Common.{ℕ, ◌+◌, max, ap, ◌∙◌}
use Rattle.pp_seat.proofs.Saying.{have_says}
use Rattle.pp_seat.proofs.seat.Seat.said_have.Goals as goal

pub returns-clause-says : goal.returns-clause-says
returns-clause-says c now spans split =
    rw (← c.self.view_is)
    (have_says _ c.args.range now c.max-self-inside.result spans split c.last.ensures.order
    (c.max-self-inside.ensures ∙ ap (λ (last : ℕ). max c.self.inside.cursor (last + 1)) c.last.ensures.last))
