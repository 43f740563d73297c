use Rattle.std.proofs.Common.{sym, ◌∙◌}
use Rattle.pp_recorded.specs.declared.acts.Act.TheVariants.{Waits}
use Rattle.pp_recorded.specs.Entries.{life_of}
use Rattle.pp_recorded.proofs.Gauges.{is_longer, waits}
use Rattle.pp_recorded.proofs.windows.wait.Goals as goal

pub returns-clause-taken : goal.returns-clause-taken
returns-clause-taken c =
    waits c.args.descriptor.now (life_of c.args.life) c.args.entries.now c.args.row c.one_more.result _ c.args.gauge.now c.args.now
    (is_longer c.args.descriptor.now (life_of c.args.life) c.args.entries.now c.args.row c.one_more.result (Waits c.args.now) _
    c.requires.next c.one_more.ensures.from c.one_more.ensures.count)
    (sym c.is_due.ensures ∙ c.if-is_due.false)

pub returns-clause-behind : goal.returns-clause-behind
returns-clause-behind c =
    (is_longer c.args.descriptor.now (life_of c.args.life) c.args.entries.now c.args.row c.one_more.result (Waits c.args.now) _
    c.requires.next c.one_more.ensures.from c.one_more.ensures.count).behind
