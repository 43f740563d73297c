use Rattle.std.proofs.Common.{◌≡◌, ◌≤◌, map, take, vec_capacity, vec_len}
use Rattle.pp_holding.specs.Queue.{most_tickets, with_tickets}
use Rattle.pp_holding.proofs.queue.add_all.Given as goal

abbrev pub invariant-loop-one : goal.invariant-loop-one
invariant-loop-one l = record {
  items : l.tickets.items ≡ with_tickets l.initial.tickets.items (map (λ w. w.ticket) (take l.one-index l.waiting));
  few : vec_len l.tickets ≤ most_tickets;
  room : most_tickets ≤ vec_capacity l.tickets;
}
