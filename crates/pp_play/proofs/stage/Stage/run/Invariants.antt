use Rattle.std.specs.Prelude.{length}
use Rattle.pp_world.specs.Move.{rounds_of}
use Rattle.pp_play.specs.Playing.{PlaysAs}
use Rattle.pp_play.proofs.stage.Stage.run.Given as goal

abbrev pub invariant-loop : goal.invariant-loop
invariant-loop l = PlaysAs (rounds_of (length l.fn.self.actors) l.gain l.counter) l.fn.self l.self
