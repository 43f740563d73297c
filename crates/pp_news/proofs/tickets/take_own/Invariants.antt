use Rattle.std.proofs.Common.{◌≡◌, ◌≤◌, take, vec_len, vec_capacity}
use Rattle.pp_news.specs.News.{of_seat}
use Rattle.pp_news.proofs.tickets.take_own.Given as goal

abbrev pub invariant-loop-ticket : goal.invariant-loop-ticket
invariant-loop-ticket l = record {
  own : l.own.items ≡ of_seat l.seat (take l.ticket-index l.tickets);
  few : vec_len l.own ≤ l.ticket-index;
  room : vec_capacity l.own ≡ vec_capacity l.initial.own;
}
