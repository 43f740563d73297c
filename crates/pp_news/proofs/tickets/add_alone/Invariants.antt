use Rattle.std.proofs.Common.{◌≡◌, ◌+◌, ◌≤◌, ◌++◌, map, take, vec_len, vec_capacity}
use Rattle.pp_news.specs.News.{of_seat, alone}
use Rattle.pp_news.proofs.tickets.add_alone.Given as goal

abbrev pub invariant-loop-ticket : goal.invariant-loop-ticket
invariant-loop-ticket l = record {
  items : l.acknowledgements.items ≡ l.initial.acknowledgements.items ++ map alone (of_seat l.seat (take l.ticket-index l.tickets));
  few : vec_len l.acknowledgements ≤ vec_len l.initial.acknowledgements + l.ticket-index;
  room : vec_capacity l.acknowledgements ≡ vec_capacity l.initial.acknowledgements;
}
