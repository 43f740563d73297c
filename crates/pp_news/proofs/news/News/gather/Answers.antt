use Rattle.std.proofs.Common.{ℕ, ◌==◌, List, sym, ◌∙◌, ap, arith}
use Rattle.std.specs.List.{list_any}
use Rattle.pp_news.proofs.JoinSteps.{has_chunk-sorted}
use Rattle.pp_news.proofs.news.News.gather.Goals as goal

pub returns-clause-ranges : goal.returns-clause-ranges
returns-clause-ranges c = record {
  same = λ i. c.list_runs.ensures.same i ∙ ap (λ (xs : List ℕ). list_any (λ d. d == i) xs) c.as_slice.ensures.value
      ∙ sym (has_chunk-sorted c.args.tickets.now c.sort_chunks.new.chunks.items c.sort_chunks.ensures.chunks i);
  runs = c.list_runs.ensures.runs;
  few = let few = c.list_runs.ensures.few in let all = c.sort_chunks.ensures.few in let size = c.list_runs.new.ranges.ok in let len = c.as_slice.ensures.len in omega (arith, few, all, size, len);
}
