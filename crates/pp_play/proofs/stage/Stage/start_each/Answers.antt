use Rattle.std.proofs.Common.{List, sym, subst}
use Rattle.pp_world.specs.Move.{Make, Move, for_each}
use Rattle.pp_world.specs.Schedule.{Start}
use Rattle.pp_play.specs.Playing.{PlaysAs}
use Rattle.pp_play.proofs.Plays.{for_each_one_more, plays_then}
use Rattle.pp_play.proofs.stage.Stage.start_each.Goals as goal

pub loop-peer-preserved : goal.loop-peer-preserved
loop-peer-preserved c =
    subst (λ (ms : List Move). PlaysAs ms c.args.self.now c.start.new.self) (sym (for_each_one_more Start c.loop-peer.peer))
    (plays_then (for_each Start 0 c.loop-peer.peer) (Make (Start c.loop-peer.peer)) c.args.self.now c.loop-peer.self c.start.new.self c.loop-peer.invariant
    c.in_ok-start.ensures.moves)
