use Rattle.std.proofs.Common.{arith, ◌∙◌}
use Rattle.pp_holding.proofs.Tickets.{add_some, add_none}
use Rattle.pp_holding.proofs.queue.add.Goals as goal

pub returns-then-len-lt-MOST_TICKETS-clause-items : goal.returns-then-len-lt-MOST_TICKETS-clause-items
returns-then-len-lt-MOST_TICKETS-clause-items c =
    c.push_reserved.ensures.items ∙ add_some c.args.tickets.now.items c.args.ticket (omega arith)

pub returns-else-len-lt-MOST_TICKETS-clause-items : goal.returns-else-len-lt-MOST_TICKETS-clause-items
returns-else-len-lt-MOST_TICKETS-clause-items c = add_none c.args.tickets.now.items _ (omega arith) (omega arith)
