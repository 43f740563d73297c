use Rattle.std.proofs.Common.{◌≡◌}
use Rattle.pp_tree.specs.Book.{entry}
use Rattle.pp_recorded.specs.Claims.{known_of}
use Rattle.pp_recorded.specs.Contradictions.{contradicts_in}
use Rattle.pp_recorded.specs.Search.{some_below}
use Rattle.pp_recorded.proofs.contradictions.contradicts.Given as goal

abbrev pub invariant-loop-layer : goal.invariant-loop-layer
invariant-loop-layer l = l.found ≡ some_below (contradicts_in l.claims.descriptor.now (entry l.book) (known_of l.claims) l.chunk l.digest) l.layer
