use Rattle.std.proofs.Common.{Bool, subst}
use Rattle.pp_node.specs.Seeding.{service_of, Judges}
use Rattle.pp_node.proofs.Seeds.{finishes_on}
use Rattle.pp_node.proofs.seeding.finish.Goals as goal

pub returns-in-Ok-clause-finishes : goal.returns-in-Ok-clause-finishes
returns-in-Ok-clause-finishes g c =
    finishes_on c.judge.result (service_of c.args.words.now) c.close.new.self (g.K.Sink.state c.args.sink.now) (g.K.Sink.state c.put_report.new.sink) (g.K.Sink.state c.judge.new.sink)
    c.in-Ok.ensures.said
    (subst (λ (f : Bool). Judges c.judge.result f c.close.new.self (g.K.Sink.state c.put_report.new.sink) (g.K.Sink.state c.judge.new.sink)) c.is_some.ensures c.judge.ensures)
