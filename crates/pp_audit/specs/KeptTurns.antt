-- Small runs that keep a promise at the ends of their turns, on channels that are plain there.
use Rattle.pp_promises.specs.Answered.{KeepsUpBut}
use Rattle.pp_promises.specs.Asked.{DialsBut}
use Rattle.pp_promises.specs.Runs as run
use Rattle.pp_promises.specs.Runs.{past, both, seven, hundred}

pub record KeptTurns : Type 0 where
  -- both addresses are dialled in the first turn; or one wrote first
  pub dials : DialsBut 0 hundred both (past run.dials_both)
  pub dials_other : DialsBut 0 hundred both (past run.dials_other)
  -- a plain channel is written to in time, a microsecond before it would be too late, and at the end of a turn of silence
  pub keeps_up : KeepsUpBut 0 seven (past run.served_more)
  pub keeps_up_yet : KeepsUpBut 0 seven (past run.not_yet_silent)
  pub keeps_up_again : KeepsUpBut 0 seven (past run.kept_up)
  -- one refusal excuses a silence
  pub excused : KeepsUpBut 1 seven (past run.left_silent)
