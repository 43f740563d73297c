use Rattle.pp_node.proofs.NamedFetches.{nothing_said}
use Rattle.pp_node.proofs.named_fetching.put_nothing.Goals as goal

pub returns-clause-said : goal.returns-clause-said
returns-clause-said g c = nothing_said _ (g.K.Sink.state c.args.sink.now) (g.K.Sink.state c.put_all.new.sink) (g.K.Sink.state c.put_counts.new.sink) c.put_counts.result c.in_ok-put_all.ensures.gained c.put_counts.ensures.gained
