use Rattle.pp_agenda.proofs.Awaiting.{one_more}
use Rattle.pp_agenda.proofs.ranges.add.Goals as goal

pub returns-in-Some-clause-each : goal.returns-in-Some-clause-each
returns-in-Some-clause-each c = one_more c.insert.result c.args.ranges.now c.insert.new.self c.args.i c.in-Some.range c.requires c.in-Some.ensures.1
    c.insert.ensures.ok c.insert.ensures.many
