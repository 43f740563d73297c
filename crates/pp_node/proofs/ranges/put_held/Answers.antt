use Rattle.std.proofs.Common.{◌∙◌}
use Rattle.pp_node.proofs.Lines.{held_said}
use Rattle.pp_node.proofs.ranges.put_held.Goals as goal

pub returns-clause-said : goal.returns-clause-said
returns-clause-said g c =
    held_said c.args.set.now c.from.result c.from-2.result (g.K.Sink.state c.args.sink.now) (g.K.Sink.state c.put_counted.new.sink) (g.K.Sink.state c.put_counted-2.new.sink)
    (g.K.Sink.state c.put_ranges.new.sink) (g.K.Sink.state c.put_all.new.sink) c.put_all.result (c.from.ensures ∙ c.count.ensures) (c.from-2.ensures ∙ c.requires)
    c.in_ok-put_counted.ensures.gained c.in_ok-put_counted-2.ensures.gained c.in_ok-put_ranges.ensures.said c.put_all.ensures.gained
