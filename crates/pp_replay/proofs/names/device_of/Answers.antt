use Rattle.std.proofs.Common.{codes, rules}
use Rattle.std.proofs.lemmas.Slice.Eq.{text_from_reads}
use Rattle.pp_replay.proofs.names.device_of.Goals as goal

pub returns-in-read : goal.returns-in-read
returns-in-read c = let is = text_from_reads c.args.word.now (codes "read") (search rules) (search rules) in rw is

pub returns-in-receive : goal.returns-in-receive
returns-in-receive c = let is = text_from_reads c.args.word.now (codes "receive") (search rules) (search rules) in rw is

pub returns-in-send : goal.returns-in-send
returns-in-send c = let is = text_from_reads c.args.word.now (codes "send") (search rules) (search rules) in rw is

pub returns-in-sync : goal.returns-in-sync
returns-in-sync c = let is = text_from_reads c.args.word.now (codes "sync") (search rules) (search rules) in rw is

pub returns-in-write : goal.returns-in-write
returns-in-write c = let is = text_from_reads c.args.word.now (codes "write") (search rules) (search rules) in rw is
