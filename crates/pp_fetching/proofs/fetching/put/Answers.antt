use Rattle.pp_fetching.proofs.Counts.{put_each, put_count}
use Rattle.pp_fetching.proofs.fetching.put.Goals as goal

pub returns-clause-each : goal.returns-clause-each
returns-clause-each c = put_each c.args.i c.insert.result c.in-Some.range c.args.picks.now c.insert.new.self c.requires.room c.requires.runs c.in-Some.ensures.1
    c.insert.ensures.exact c.insert.ensures.many

pub returns-clause-count : goal.returns-clause-count
returns-clause-count c = put_count c.args.i c.insert.result c.in-Some.range c.args.picks.now c.insert.new.self c.requires.room c.requires.runs c.requires.absent
    c.in-Some.ensures.1 c.insert.ensures.exact c.insert.ensures.many
