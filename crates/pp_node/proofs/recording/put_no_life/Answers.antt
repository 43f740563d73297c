use Rattle.std.proofs.Common.{ℕ, [], ◌∷◌, codes, decimal, ◌++◌, OnOk, subst}
use Rattle.pp_terms.specs.command.Stream.{Gains}
use Rattle.pp_node.proofs.Recordings.{no_life_said}
use Rattle.pp_node.proofs.recording.put_no_life.Goals as goal

pub returns-clause-said : goal.returns-clause-said
returns-clause-said g c =
    no_life_said c.args.peer c.args.life (g.K.Sink.state c.args.sink.now).taken (g.K.Sink.state c.put_counted.new.sink).taken
    (g.K.Sink.state c.put_counted-2.new.sink).taken c.put_counted-2.result
    (subst (λ (n : ℕ). Gains (g.K.Sink.state c.args.sink.now).taken (codes "no life: peer " ++ decimal n ++ codes " life ") (g.K.Sink.state c.put_counted.new.sink).taken)
    c.from.ensures c.in_ok-put_counted.ensures.gained)
    (subst (λ (n : ℕ). OnOk c.put_counted-2.result (Gains (g.K.Sink.state c.put_counted.new.sink).taken (decimal n ++ 10 ∷ [])
    (g.K.Sink.state c.put_counted-2.new.sink).taken)) c.from-2.ensures c.put_counted-2.ensures.gained)
