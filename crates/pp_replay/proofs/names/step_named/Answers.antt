use Rattle.std.proofs.Common.{codes, rules}
use Rattle.std.proofs.lemmas.Slice.Eq.{text_from_reads}
use Rattle.pp_replay.proofs.names.step_named.Goals as goal

pub returns-in-crash : goal.returns-in-crash
returns-in-crash c = let is = text_from_reads c.args.word.now (codes "crash") (search rules) (search rules) in rw is

pub returns-in-fail : goal.returns-in-fail
returns-in-fail c = let is = text_from_reads c.args.word.now (codes "fail") (search rules) (search rules) in rw is

pub returns-in-forge : goal.returns-in-forge
returns-in-forge c = let is = text_from_reads c.args.word.now (codes "forge") (search rules) (search rules) in rw is

pub returns-in-later : goal.returns-in-later
returns-in-later c = let is = text_from_reads c.args.word.now (codes "later") (search rules) (search rules) in rw is

pub returns-in-lose : goal.returns-in-lose
returns-in-lose c = let is = text_from_reads c.args.word.now (codes "lose") (search rules) (search rules) in rw is

pub returns-in-repeat : goal.returns-in-repeat
returns-in-repeat c = let is = text_from_reads c.args.word.now (codes "repeat") (search rules) (search rules) in rw is

pub returns-in-run : goal.returns-in-run
returns-in-run c = let is = text_from_reads c.args.word.now (codes "run") (search rules) (search rules) in rw is

pub returns-in-start : goal.returns-in-start
returns-in-start c = let is = text_from_reads c.args.word.now (codes "start") (search rules) (search rules) in rw is

pub returns-in-stop : goal.returns-in-stop
returns-in-stop c = let is = text_from_reads c.args.word.now (codes "stop") (search rules) (search rules) in rw is

pub returns-in-turn : goal.returns-in-turn
returns-in-turn c = let is = text_from_reads c.args.word.now (codes "turn") (search rules) (search rules) in rw is
