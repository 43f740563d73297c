use Rattle.std.proofs.Common.{◌≡◌, true, take}
use Rattle.pp_terms.specs.tree.Range.{Span}
use Rattle.pp_news.specs.News.{IsNewestIn}
use Rattle.pp_news.proofs.Newest.{is_any_in}
use Rattle.pp_news.proofs.stretches.newest_delay.Given as goal

abbrev pub invariant-loop-ticket : goal.invariant-loop-ticket
invariant-loop-ticket l =
    let range : Span = record { first = l.first; last = l.last } in
    is_any_in range (take l.ticket-index l.tickets) ≡ true → IsNewestIn range (take l.ticket-index l.tickets) l.delay
