use Rattle.pp_replay.proofs.StepWords.{none_left}
use Rattle.pp_replay.proofs.lines.Words.is_empty.Goals as goal

pub returns : goal.returns
returns c = none_left c.args.self.now.rest c.is_none.result c.is_none.ensures
