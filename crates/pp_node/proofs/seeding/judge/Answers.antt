use Rattle.std.proofs.Common.{◌++◌, ◌∙◌, ap, subst, Bool, List, codes, decimal}
use Rattle.pp_node.specs.Seeding.{NamesFirst}
use Rattle.pp_promises.specs.Missing.{incomplete_line}
use Rattle.pp_node.proofs.Seeds.{incomplete_is, names_first}
use Rattle.pp_node.proofs.seeding.judge.Goals as goal

pub returns-in-Some : goal.returns-in-Some
returns-in-Some g c = (
  c.if-fetches.true,
  subst (λ (set : List Bool). NamesFirst set (g.K.Sink.state c.args.sink.now) (g.K.Sink.state c.put_counted.new.sink)) c.committed.ensures
      (names_first c.committed.result.now c.in-Some.first (codes "incomplete: first missing chunk " ++ decimal c.from.result ++ codes "\n")
      (g.K.Sink.state c.args.sink.now) (g.K.Sink.state c.put_counted.new.sink) c.put_counted.result c.in-Some.ensures.0 c.in-Some.ensures.1 c.in-Some.ensures.2
      (incomplete_is c.from.result ∙ ap incomplete_line c.from.ensures) c.put_counted.ensures.gained c.put_counted.ensures.cause),
)
