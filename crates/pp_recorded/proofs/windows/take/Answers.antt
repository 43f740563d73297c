use Rattle.pp_recorded.specs.declared.acts.Act.TheVariants.{Other}
use Rattle.pp_recorded.specs.Entries.{life_of}
use Rattle.pp_recorded.proofs.Gauges.{is_longer, passes_by}
use Rattle.pp_recorded.proofs.windows.take.Goals as goal

pub returns-in-Other-clause-taken : goal.returns-in-Other-clause-taken
returns-in-Other-clause-taken c =
    rw c.in-Other.is
    (passes_by c.args.descriptor.now (life_of c.args.life) c.args.entries.now c.args.row c.one_more.result _ c.args.gauge.now
    (is_longer c.args.descriptor.now (life_of c.args.life) c.args.entries.now c.args.row c.one_more.result Other _
    (rw c.in-Other.is at c.requires.next) c.one_more.ensures.from c.one_more.ensures.count))

pub returns-in-Other-clause-behind : goal.returns-in-Other-clause-behind
returns-in-Other-clause-behind c =
    (is_longer c.args.descriptor.now (life_of c.args.life) c.args.entries.now c.args.row c.one_more.result c.args.act _
    c.requires.next c.one_more.ensures.from c.one_more.ensures.count).behind
