use Rattle.std.proofs.Common.{◌≡◌, ◌≤◌, count_by}
use Rattle.std.specs.List.{range_with_len}
use Rattle.pp_promises.specs.Announced.{is_new}
use Rattle.pp_recorded.specs.Entries.{past, life_of}
use Rattle.pp_audit.proofs.telling.new_count.Given as goal

abbrev pub invariant-loop-chunk : goal.invariant-loop-chunk
invariant-loop-chunk l = record {
  few : l.count ≤ l.chunk;
  same : l.count ≡ count_by (is_new l.descriptor (life_of l.life) (past l.entries)) (range_with_len 0 l.chunk);
}
