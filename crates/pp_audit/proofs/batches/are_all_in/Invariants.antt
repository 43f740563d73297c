use Rattle.std.proofs.Common.{◌≡◌, map}
use Rattle.std.specs.List.{list_all, range_with_len}
use Rattle.pp_audit.specs.Batches as terms
use Rattle.pp_audit.specs.Batches.{pending_of}
use Rattle.pp_audit.proofs.batches.are_all_in.Given as goal

abbrev pub invariant-loop-chunk : goal.invariant-loop-chunk
invariant-loop-chunk l = l.all ≡ list_all (terms.is_in l.committed l.stored (map pending_of l.pending)) (range_with_len 0 l.chunk)
