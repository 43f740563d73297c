use Rattle.pp_desk.proofs.Saying.{IsGone}
use Rattle.pp_desk.proofs.steps.said_cancel.Given as goal

abbrev pub invariant-loop-i : goal.invariant-loop-i
invariant-loop-i l = IsGone l.fn.range l.i l.fn.seat l.seat
