use Rattle.std.proofs.Common.{codes, rules}
use Rattle.std.proofs.lemmas.Slice.Eq.{text_from_reads}
use Rattle.pp_replay.proofs.names.order_of.Goals as goal

pub returns-in-rarest : goal.returns-in-rarest
returns-in-rarest c = let is = text_from_reads c.args.word.now (codes "rarest") (search rules) (search rules) in rw is

pub returns-in-sequential : goal.returns-in-sequential
returns-in-sequential c = let is = text_from_reads c.args.word.now (codes "sequential") (search rules) (search rules) in rw is
