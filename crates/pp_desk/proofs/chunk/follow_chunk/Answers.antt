use Rattle.pp_desk.proofs.Serving.{served_says}
use Rattle.pp_desk.proofs.chunk.follow_chunk.Goals as goal

pub returns-then-sent : goal.returns-then-sent
returns-then-sent c = rw c.if-sent.true (record {
  exact = c.said_data.ensures.exact;
  fewer = c.said_data.ensures.fewer;
  says = λ bytes. served_says c.args.delivery.now bytes c.args.seat.now c.said_data.new.self (c.said_data.ensures.goes c.args.delivery.now.sent_at bytes);
})
