use Rattle.std.proofs.Common.{◌≡◌, ◌≤◌, vec_len, vec_capacity}
use Rattle.pp_news.proofs.RunSteps.{RunsLoop}
use Rattle.pp_news.proofs.runs.list_runs.Given as goal

abbrev pub invariant-loop-chunk : goal.invariant-loop-chunk
invariant-loop-chunk l = record {
  steps : RunsLoop l.initial.first l.others l.chunk-index l.first l.last l.ranges.items;
  few : vec_len l.ranges ≤ l.chunk-index;
  room : vec_capacity l.ranges ≡ vec_capacity l.initial.ranges;
}
