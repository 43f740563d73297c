use Rattle.std.proofs.Common.{◌≡◌, ◌≤◌, vec_len, vec_capacity}
use Rattle.pp_news.proofs.JoinSteps.{JoinLoop}
use Rattle.pp_news.proofs.stretches.join.Given as goal

abbrev pub invariant-loop-chunk : goal.invariant-loop-chunk
invariant-loop-chunk l = record {
  steps : JoinLoop l.committed l.tickets l.initial.first l.others l.chunk-index l.first l.last l.end l.acknowledgements.items;
  few : vec_len l.acknowledgements ≤ l.chunk-index;
  room : vec_capacity l.acknowledgements ≡ vec_capacity l.initial.acknowledgements;
}
