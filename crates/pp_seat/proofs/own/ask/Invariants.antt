use Rattle.pp_seat.proofs.Asking.{AskedSome}
use Rattle.pp_seat.proofs.own.ask.Given as goal

abbrev pub invariant-loop-i : goal.invariant-loop-i
invariant-loop-i l = AskedSome l.fn.range l.i l.now l.fn.own l.own
