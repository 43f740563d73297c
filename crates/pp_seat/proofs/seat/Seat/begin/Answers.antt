use Rattle.std.proofs.Common.{sym, ◌∙◌}
use Rattle.pp_seat.proofs.Openings.{opens}
use Rattle.pp_seat.proofs.seat.Seat.begin.Goals as goal

pub returns-clause-follows : goal.returns-clause-follows
returns-clause-follows c f t chunks size begins =
    rw (c.clear.ensures, c.new-self-inside.ensures, c.forget-2.ensures, c.clear-2.ensures)
    (opens f c.args.size c.forget.new.self c.args.slot t c.forget.ensures.nothing (c.forget.ensures.chunks ∙ rw (← c.self.view_is) at (sym chunks)) size begins)
