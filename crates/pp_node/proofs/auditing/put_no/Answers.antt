use Rattle.std.proofs.Common.{ℕ, [], ◌∷◌, codes, decimal, ◌++◌, ◌∙◌, OnOk, subst}
use Rattle.pp_terms.specs.command.Stream.{Gains}
use Rattle.pp_node.proofs.Audits.{no_said}
use Rattle.pp_node.proofs.auditing.put_no.Goals as goal

pub returns-clause-said : goal.returns-clause-said
returns-clause-said g c =
    no_said c.args.at c.args.part (g.K.Sink.state c.args.sink.now).taken (g.K.Sink.state c.put_counted.new.sink).taken
    (g.K.Sink.state c.put_counted-2.new.sink).taken c.put_counted-2.result
    (subst (λ (n : ℕ). Gains (g.K.Sink.state c.args.sink.now).taken (codes "audit no record " ++ decimal n ++ codes " part ") (g.K.Sink.state c.put_counted.new.sink).taken)
    c.from.ensures c.in_ok-put_counted.ensures.gained)
    (subst (λ (n : ℕ). OnOk c.put_counted-2.result (Gains (g.K.Sink.state c.put_counted.new.sink).taken (decimal n ++ 10 ∷ [])
    (g.K.Sink.state c.put_counted-2.new.sink).taken)) (c.from-2.ensures ∙ c.number.ensures) c.put_counted-2.ensures.gained)
