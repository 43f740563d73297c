use Rattle.std.proofs.Common.{◌≡◌, ◌≤◌, count_by}
use Rattle.std.specs.List.{range_with_len}
use Rattle.pp_traffic.specs.Story.{story}
use Rattle.pp_promises.specs.OwnSide.{is_named}
use Rattle.pp_recorded.specs.Entries.{past, life_of}
use Rattle.pp_audit.proofs.offers.named_count.Given as goal

abbrev pub invariant-loop-chunk : goal.invariant-loop-chunk
invariant-loop-chunk l = record {
  few : l.count ≤ l.chunk;
  same : l.count ≡ count_by (λ i. is_named i (story l.descriptor (life_of l.life) (past l.entries))) (range_with_len 0 l.chunk);
}
