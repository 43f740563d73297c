use Rattle.std.proofs.Common.{arith}
use Rattle.pp_news.proofs.Telling.{of_seat_in}
use Rattle.pp_store_tests.proofs.news.is_acknowledged.Goals as goal

pub acknowledge-requires-clause-committed : goal.acknowledge-requires-clause-committed
acknowledge-requires-clause-committed c = of_seat_in c.args.committed.now c.args.seat c.args.tickets.now (c.are_in.ensures (grind arith))
