use Rattle.std.proofs.Common.{false, sym, ◌∙◌}
use Rattle.pp_seat.proofs.Openings.{opens}
use Rattle.pp_seat.proofs.seat.Seat.new.Goals as goal

pub returns-clause-follows : goal.returns-clause-follows
returns-clause-follows c f t chunks size begins =
    rw (c.new-2.ensures, c.new-3.ensures, c.in_ok-claims.ensures, c.new-4.ensures)
    (opens f c.args.size c.in_ok-told.told false t c.in_ok-told.ensures.nothing (c.in_ok-told.ensures.chunks ∙ sym chunks) size begins)
