use Rattle.pp_peer.proofs.GivenUp.{gives_twice, none_more}
use Rattle.pp_peer.proofs.parts.Parts.give_up_requests.Goals as goal

pub loop-seat-preserved : goal.loop-seat-preserved
loop-seat-preserved c = (
  gives_twice c.args.self.now c.loop-seat.self c.give_up_all.new.self c.loop-seat.invariant.0 c.give_up_all.ensures.gives_up.gives_up,
  none_more c.loop-seat.seat c.loop-seat.self c.give_up_all.new.self c.loop-seat.invariant.1 c.give_up_all.ensures.gives_up c.give_up_all.ensures.all,
)
