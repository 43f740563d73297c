use Rattle.pp_desk.proofs.Saying.{have_said, have_again}
use Rattle.pp_desk.proofs.steps.said_have.Goals as goal

pub returns-then-set_back : goal.returns-then-set_back
returns-then-set_back c now = rw c.if-set_back.true (have_again now c.args.range c.args.seat.now)

pub returns : goal.returns
returns c now = rw c.if-set_back.false (have_said now c.args.range c.args.seat.now c.said_have.new.self c.said_have.ensures.exact c.said_have.ensures.says)
