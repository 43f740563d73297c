use Rattle.std.proofs.Common.{ℕ, ◌+◌, take, sym, subst}
use Rattle.pp_terms.specs.tree.Range.{Span}
use Rattle.pp_news.specs.News.{IsNewestIn}
use Rattle.pp_news.proofs.Newest.{newest_more, newest_stays, in_range, below_range, above_range, newest_of_all}
use Rattle.pp_news.proofs.stretches.newest_delay.Goals as goal
use Rattle.pp_news.proofs.stretches.newest_delay.Goals.{then-first-ticket+then-ticket-last, else-first-ticket, else-first-ticket-via-then-first-ticket+else-ticket-last, else-first-ticket-via-else-first-ticket}

pub loop-ticket-preserved : goal.loop-ticket-preserved
loop-ticket-preserved c any =
    let range : Span = record { first = c.args.first; last = c.args.last } in
    elim c.if-first-ticket.branch [
      | then-first-ticket+then-ticket-last w ↦
          subst (λ (n : ℕ). IsNewestIn range (take (c.loop-ticket.ticket-index + 1) c.args.tickets.now) n) (sym w.delay-is)
          (newest_more range c.args.tickets.now c.loop-ticket.ticket-index _ c.loop-ticket.delay c.loop-ticket-test.true c.loop-ticket.invariant
          (in_range c.args.first c.args.last _ w.if-first-ticket.true w.if-ticket-last.true) any)
      | else-first-ticket w ↦
          subst (λ (n : ℕ). IsNewestIn range (take (c.loop-ticket.ticket-index + 1) c.args.tickets.now) n) (sym w.delay-is)
          (newest_stays range c.args.tickets.now c.loop-ticket.ticket-index _ c.loop-ticket.delay c.loop-ticket-test.true c.loop-ticket.invariant
          (elim w.else-first-ticket.branch [
            | else-first-ticket-via-then-first-ticket+else-ticket-last w' ↦ above_range c.args.first c.args.last _ w'.if-ticket-last.false
            | else-first-ticket-via-else-first-ticket w' ↦ below_range c.args.first c.args.last _ w'.if-first-ticket.false
          ]) any)
    ]

pub returns : goal.returns
returns c own order =
    newest_of_all c.args.first c.args.last c.args.tickets.now c.loop-ticket.ticket-index c.loop-ticket.delay c.loop-ticket-test.false c.loop-ticket.invariant own order
