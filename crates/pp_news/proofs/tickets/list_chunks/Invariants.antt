use Rattle.std.proofs.Common.{◌≡◌, map, take, vec_len, vec_capacity}
use Rattle.pp_news.proofs.tickets.list_chunks.Given as goal

abbrev pub invariant-loop-ticket : goal.invariant-loop-ticket
invariant-loop-ticket l = record {
  chunks : l.chunks.items ≡ map (λ t. t.chunk) (take l.ticket-index l.tickets);
  few : vec_len l.chunks ≡ l.ticket-index;
  room : vec_capacity l.chunks ≡ vec_capacity l.initial.chunks;
}
