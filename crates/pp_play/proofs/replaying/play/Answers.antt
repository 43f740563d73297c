use Rattle.std.proofs.Common.{sym, subst}
use Rattle.pp_world.specs.Move.{moves_of}
use Rattle.pp_play.specs.Playing.{PlaysAs}
use Rattle.pp_play.specs.contracts.stage.Stage.{the_view}
use Rattle.pp_play.proofs.Endings.{counted, played}
use Rattle.pp_play.proofs.Few.{few_moves}
use Rattle.pp_play.proofs.replaying.play.Goals as goal

pub play-requires-clause-peers : goal.play-requires-clause-peers
play-requires-clause-peers c = counted c.args.schedule.now c.in_ok-stage.stage c.in_ok-stage.ensures

pub returns : goal.returns
returns c = played c.args.schedule.now c.in_ok-stage.stage (the_view c.stage.inside) c.in_ok-end_all.field-0 c.chunks.result c.in_ok-stage.ensures
    (subst (PlaysAs (moves_of c.args.schedule.now) c.in_ok-stage.stage) (sym c.stage.view_is) c.in_ok-play.ensures)
    (few_moves c.args.schedule.now c.requires) c.in_ok-end_all.ensures c.chunks.ensures.chunks c.chunks.ensures.valid
