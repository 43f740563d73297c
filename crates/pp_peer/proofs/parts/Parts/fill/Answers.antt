use Rattle.std.proofs.Common.{◌≤◌, List, Bool, length, sym, subst}
use Rattle.pp_holding.specs.declared.queue.Ticket.{Ticket}
use Rattle.pp_news.specs.News.{of_seat, AreIn, AreAcknowledged}
use Rattle.pp_news.proofs.Telling.{own_are_in}
use Rattle.pp_peer.proofs.Placed.{few_acknowledgements}
use Rattle.pp_peer.proofs.parts.Parts.fill.Goals as goal

pub acknowledge-requires-clause-committed : goal.acknowledge-requires-clause-committed
acknowledge-requires-clause-committed c =
    subst (λ (xs : List Bool). AreIn xs (of_seat c.args.hearer.now.seat c.tickets.result.now)) (sym c.committed.ensures)
    (own_are_in c.args.self.now.holding.store.committed c.args.hearer.now.seat c.tickets.result.now c.tickets.ensures.committed)

pub fill-requires-clause-acknowledgements : goal.fill-requires-clause-acknowledgements
fill-requires-clause-acknowledgements c =
    few_acknowledgements c.committed.result.now c.args.hearer.now.seat c.tickets.result.now c.repeats.result.now c.acknowledgements.result.now
    (subst (λ xs. AreAcknowledged c.committed.result.now (of_seat c.args.hearer.now.seat c.tickets.result.now) (of_seat c.args.hearer.now.seat c.repeats.result.now) xs)
    (sym c.acknowledgements.ensures) c.acknowledge.ensures.acknowledgements)
    (subst (λ (ts : List Ticket). length ts ≤ 307) (sym c.tickets.ensures.same) c.tickets.ensures.few.tickets)
    (subst (λ (ts : List Ticket). length ts ≤ 307) (sym c.repeats.ensures.same) c.repeats.ensures.few.repeats)
