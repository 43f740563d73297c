use Rattle.std.specs.Prelude.{take}
use Rattle.pp_node.proofs.Replays.{ArePut}
use Rattle.pp_node.proofs.replaying.put_ends.Given as goal

abbrev pub invariant-loop-peer : goal.invariant-loop-peer
invariant-loop-peer g l = ArePut (take l.peer l.ends) (g.K.Sink.state l.initial.sink) (g.K.Sink.state l.sink)
