use Rattle.std.proofs.Common.{ℕ, Bool, List, codes, decimal, ◌++◌, ◌∙◌, subst}
use Rattle.pp_terms.specs.command.Stream.{Gains}
use Rattle.pp_node.specs.Held.{HasRanges}
use Rattle.pp_node.proofs.Replays.{end_said}
use Rattle.pp_node.proofs.replaying.put_end.Goals as goal

pub returns-clause-said : goal.returns-clause-said
returns-clause-said g c =
    end_said c.args.peer c.args.end.now (g.K.Sink.state c.args.sink.now) (g.K.Sink.state c.put_counted.new.sink) (g.K.Sink.state c.put_counted-2.new.sink)
    (g.K.Sink.state c.put_counted-3.new.sink) (g.K.Sink.state c.put_ranges.new.sink) (g.K.Sink.state c.put_all.new.sink) c.put_all.result
    c.in_ok-put_counted.ensures.gained
    (subst (λ (n : ℕ). Gains (g.K.Sink.state c.put_counted.new.sink).taken (decimal n ++ codes " announced ") (g.K.Sink.state c.put_counted-2.new.sink).taken)
    c.life_count.ensures c.in_ok-put_counted-2.ensures.gained)
    (subst (λ (n : ℕ). Gains (g.K.Sink.state c.put_counted-2.new.sink).taken (decimal n ++ codes " held ") (g.K.Sink.state c.put_counted-3.new.sink).taken)
    (c.from.ensures ∙ c.announced.ensures) c.in_ok-put_counted-3.ensures.gained)
    (subst (λ (set : List Bool). HasRanges set (g.K.Sink.state c.put_counted-3.new.sink) (g.K.Sink.state c.put_ranges.new.sink)) c.held.ensures
    c.in_ok-put_ranges.ensures.said) c.put_all.ensures.gained
