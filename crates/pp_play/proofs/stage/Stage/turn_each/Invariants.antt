use Rattle.pp_world.specs.Move.{for_each}
use Rattle.pp_world.specs.Schedule.{Turn}
use Rattle.pp_play.specs.Playing.{PlaysAs}
use Rattle.pp_play.proofs.stage.Stage.turn_each.Given as goal

abbrev pub invariant-loop-peer : goal.invariant-loop-peer
invariant-loop-peer l = PlaysAs (for_each Turn 0 l.peer) l.fn.self l.self
