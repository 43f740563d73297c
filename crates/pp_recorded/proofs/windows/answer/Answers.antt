use Rattle.std.proofs.Common.{sym, ◌∙◌, ap, length, List}
use Rattle.pp_traffic.specs.declared.entries.Entry as flown
use Rattle.pp_recorded.specs.declared.acts.Act.TheVariants.{Acks}
use Rattle.pp_recorded.specs.Entries.{life_of}
use Rattle.pp_recorded.proofs.Gauges.{is_longer, ignores, answers, flies_on}
use Rattle.pp_recorded.proofs.windows.answer.Goals as goal

pub returns-then-before-eq0-clause-taken : goal.returns-then-before-eq0-clause-taken
returns-then-before-eq0-clause-taken c =
    ignores c.args.descriptor.now (life_of c.args.life) c.args.entries.now c.args.row c.one_more-longer.result _ c.args.gauge.now
    c.args.first c.args.last c.args.delay c.args.now
    (is_longer c.args.descriptor.now (life_of c.args.life) c.args.entries.now c.args.row c.one_more-longer.result
    (Acks c.args.first c.args.last c.args.delay c.args.now) _ c.requires.next c.one_more-longer.ensures.from c.one_more-longer.ensures.count)
    (sym c.flight-before.ensures.hits ∙ c.if-before-eq0.true)

pub returns-then-before-eq0-clause-behind : goal.returns-then-before-eq0-clause-behind
returns-then-before-eq0-clause-behind c =
    (is_longer c.args.descriptor.now (life_of c.args.life) c.args.entries.now c.args.row c.one_more-longer.result
    (Acks c.args.first c.args.last c.args.delay c.args.now) _ c.requires.next c.one_more-longer.ensures.from c.one_more-longer.ensures.count).behind

pub returns-clause-taken : goal.returns-clause-taken
returns-clause-taken c =
    let longer = is_longer c.args.descriptor.now (life_of c.args.life) c.args.entries.now c.args.row c.one_more-longer.result
    (Acks c.args.first c.args.last c.args.delay c.args.now) _ c.requires.next c.one_more-longer.ensures.from c.one_more-longer.ensures.count in
    answers c.args.descriptor.now (life_of c.args.life) c.args.entries.now c.args.row c.one_more-longer.result c.trimmed.result _ c.args.gauge.now c.acked.new.self
    c.flight-before.result c.flight-after.result.total c.args.first c.args.last c.args.delay c.args.now longer c.trimmed.ensures.same
    (record {
      total = c.flight-before.ensures.total;
      hits = c.flight-before.ensures.hits;
      sent = c.flight-before.ensures.sent;
      left = c.flight-after.ensures.total
          ∙ ap (λ (es : List flown.Entry). length es)
          (flies_on c.args.descriptor.now (life_of c.args.life) c.args.entries.now c.args.row c.one_more-longer.result _
          c.args.first c.args.last c.args.delay c.args.now longer);
    })
    c.if-before-eq0.false c.acked.ensures

pub returns-clause-behind : goal.returns-clause-behind
returns-clause-behind c =
    c.trimmed.ensures.behind
    ∙ (is_longer c.args.descriptor.now (life_of c.args.life) c.args.entries.now c.args.row c.one_more-longer.result
    (Acks c.args.first c.args.last c.args.delay c.args.now) _ c.requires.next c.one_more-longer.ensures.from c.one_more-longer.ensures.count).behind
