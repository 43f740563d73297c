use Rattle.pp_replay.proofs.RowsAndWords.{words_split, word_alone}
use Rattle.pp_replay.proofs.lines.first_word.Goals as goal

pub returns-in-Some : goal.returns-in-Some
returns-in-Some c = words_split _ _ _ c.in-Some.ensures.0 c.in-Some.ensures.1

pub returns-in-None : goal.returns-in-None
returns-in-None c = word_alone _ c.in-None.ensures
