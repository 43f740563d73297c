use Rattle.std.proofs.Common.{ℕ, List, codes, decimal, ◌++◌, subst}
use Rattle.pp_terms.specs.command.Stream.{Gains}
use Rattle.pp_replay.specs.Views.{as_fault}
use Rattle.pp_node.proofs.Replays.{fault_said}
use Rattle.pp_node.proofs.replaying.put_fault.Goals as goal

pub returns-clause-said : goal.returns-clause-said
returns-clause-said g c =
    fault_said (as_fault c.args.fault.now) (g.K.Sink.state c.args.sink.now).taken (g.K.Sink.state c.put_counted.new.sink).taken
    (g.K.Sink.state c.put_all.new.sink).taken (g.K.Sink.state c.put_all-2.new.sink).taken c.put_all-2.result
    (subst (λ (n : ℕ). Gains (g.K.Sink.state c.args.sink.now).taken (codes "schedule: line " ++ decimal n ++ codes ": ") (g.K.Sink.state c.put_counted.new.sink).taken)
    c.from.ensures c.in_ok-put_counted.ensures.gained)
    (subst (λ (t : List ℕ). Gains (g.K.Sink.state c.put_counted.new.sink).taken t (g.K.Sink.state c.put_all.new.sink).taken) c.kind_text.ensures
    c.in_ok-put_all.ensures.gained) c.put_all-2.ensures.gained
