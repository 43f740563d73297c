use Rattle.pp_seat.proofs.Saying.{question_goes}
use Rattle.pp_seat.proofs.seat.Seat.said_question.Goals as goal

pub returns-clause-goes : goal.returns-clause-goes
returns-clause-goes c = rw (← c.self.view_is) (question_goes _ c.args.now)
