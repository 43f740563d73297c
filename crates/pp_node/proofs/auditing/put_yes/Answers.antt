use Rattle.std.proofs.Common.{ℕ, codes, decimal, ◌++◌, OnOk, subst}
use Rattle.pp_terms.specs.command.Stream.{Gains}
use Rattle.pp_node.proofs.Audits.{yes_said}
use Rattle.pp_node.proofs.auditing.put_yes.Goals as goal

pub returns-clause-said : goal.returns-clause-said
returns-clause-said g c =
    yes_said c.args.records c.args.chunks (g.K.Sink.state c.args.sink.now).taken (g.K.Sink.state c.put_counted.new.sink).taken
    (g.K.Sink.state c.put_counted-2.new.sink).taken c.put_counted-2.result
    (subst (λ (n : ℕ). Gains (g.K.Sink.state c.args.sink.now).taken (codes "audit yes " ++ decimal n ++ codes " records ") (g.K.Sink.state c.put_counted.new.sink).taken)
    c.from.ensures c.in_ok-put_counted.ensures.gained)
    (subst (λ (n : ℕ). OnOk c.put_counted-2.result (Gains (g.K.Sink.state c.put_counted.new.sink).taken (decimal n ++ codes " data\n")
    (g.K.Sink.state c.put_counted-2.new.sink).taken)) c.from-2.ensures c.put_counted-2.ensures.gained)
