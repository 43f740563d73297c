use Rattle.std.proofs.Common.{sym, ◌∙◌}
use Rattle.pp_seat.proofs.Hearing.{taken_goes, ended_due, ended_not}
use Rattle.pp_seat.proofs.seat.Seat.taken.Goals as goal

pub returns-then-timeout_due-clause-goes : goal.returns-then-timeout_due-clause-goes
returns-then-timeout_due-clause-goes c =
    rw (← c.self.view_is) (taken_goes _ c.timed_out.new.self c.args.now (ended_due c.args.now c.self.inside.window c.timed_out.new.self (sym c.timeout_due.ensures ∙ c.if-timeout_due.true) c.timed_out.ensures))

pub returns-else-timeout_due-clause-goes : goal.returns-else-timeout_due-clause-goes
returns-else-timeout_due-clause-goes c =
    rw (← c.self.view_is)
    (taken_goes _ c.self.inside.window c.args.now (ended_not c.args.now c.self.inside.window (sym c.timeout_due.ensures ∙ c.if-timeout_due.false)))
