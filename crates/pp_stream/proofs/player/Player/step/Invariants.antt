use Rattle.std.proofs.Common.{◌-◌, []}
use Rattle.pp_stream.specs.Player.{feed}
use Rattle.pp_stream.specs.Steps.{PutsNext, KeepsRest}
use Rattle.pp_stream.proofs.player.Player.step.Given as goal

abbrev pub invariant-loop-self : goal.invariant-loop-self
invariant-loop-self g l = record {
  put : PutsNext l.peer.parts.holding (feed l.initial.self (g.D.Disk.state l.initial.disk) (g.K.Sink.state l.initial.sink)) (feed l.self (g.D.Disk.state l.disk) (g.K.Sink.state l.sink)) [];
  rest : KeepsRest (feed l.initial.self (g.D.Disk.state l.initial.disk) (g.K.Sink.state l.initial.sink)) (feed l.self (g.D.Disk.state l.disk) (g.K.Sink.state l.sink));
}

abbrev pub decreases-loop-self : goal.decreases-loop-self
decreases-loop-self g l = l.self.chunks - l.self.base
