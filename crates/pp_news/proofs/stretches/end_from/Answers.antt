use Rattle.pp_news.proofs.JoinSteps.{stands_below}
use Rattle.pp_news.proofs.stretches.end_from.Goals as goal

pub returns-in-None-clause-all : goal.returns-in-None-clause-all
returns-in-None-clause-all c i low high = stands_below c.args.committed.now i (c.in-None.ensures i low)
