use Rattle.pp_recorded.specs.declared.acts.Act.TheVariants.{Sends}
use Rattle.pp_recorded.specs.Entries.{life_of}
use Rattle.pp_recorded.proofs.Gauges.{is_longer, sends}
use Rattle.pp_recorded.proofs.windows.send.Goals as goal

pub returns-clause-taken : goal.returns-clause-taken
returns-clause-taken c =
    sends c.args.descriptor.now (life_of c.args.life) c.args.entries.now c.args.row c.one_more.result _ c.args.gauge.now c.sent.new.self c.is_flying.result c.args.chunk c.args.now
    (is_longer c.args.descriptor.now (life_of c.args.life) c.args.entries.now c.args.row c.one_more.result (Sends c.args.chunk c.args.now) _
    c.requires.next c.one_more.ensures.from c.one_more.ensures.count)
    c.is_flying.ensures c.sent.ensures

pub returns-clause-behind : goal.returns-clause-behind
returns-clause-behind c =
    (is_longer c.args.descriptor.now (life_of c.args.life) c.args.entries.now c.args.row c.one_more.result (Sends c.args.chunk c.args.now) _
    c.requires.next c.one_more.ensures.from c.one_more.ensures.count).behind
