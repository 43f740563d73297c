use Rattle.std.proofs.Common.{◌≡◌}
use Rattle.std.specs.List.{list_all, range_with_len}
use Rattle.pp_recorded.specs.Entries.{past, life_of}
use Rattle.pp_recorded.specs.Offers as terms
use Rattle.pp_audit.proofs.offers.asks_offered.Given as goal

abbrev pub invariant-loop-chunk : goal.invariant-loop-chunk
invariant-loop-chunk l = l.all ≡ list_all (terms.is_asked_for l.held l.descriptor (past l.entries) (life_of l.life)) (range_with_len 0 l.chunk)
