use Rattle.std.proofs.Common.{◌-◌}
use Rattle.pp_node.proofs.Spans.{IsPut}
use Rattle.pp_node.proofs.ranges.put_more.Given as goal

abbrev pub invariant-loop-chunks : goal.invariant-loop-chunks
invariant-loop-chunks g l = IsPut l.set l.from l.end (g.K.Sink.state l.initial.sink) (g.K.Sink.state l.sink)

abbrev pub decreases-loop-chunks : goal.decreases-loop-chunks
decreases-loop-chunks g l = l.chunks - l.end
