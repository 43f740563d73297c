use Rattle.pp_replay.proofs.ContentWords.{content_with_is}
use Rattle.pp_replay.proofs.content.content_with.Goals as goal

pub returns-in_default-number_in : goal.returns-in_default-number_in
returns-in_default-number_in c = rw (content_with_is, ← c.in-Ok.ensures, ← c.in_default-number_in.ensures)

pub returns-in_default-number_in-2 : goal.returns-in_default-number_in-2
returns-in_default-number_in-2 c = rw (content_with_is, ← c.in-Ok.ensures, ← c.in-Ok-number_in.ensures, ← c.in_default-number_in-2.ensures)
