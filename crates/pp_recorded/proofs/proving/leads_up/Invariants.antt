use Rattle.std.proofs.Common.{◌≡◌}
use Rattle.pp_terms.specs.format.Descriptor.{chunks_of}
use Rattle.pp_recorded.specs.Claims.{known_of}
use Rattle.pp_recorded.specs.Provings.{leads_at}
use Rattle.pp_recorded.specs.Search.{some_below}
use Rattle.pp_recorded.proofs.proving.leads_up.Given as goal

abbrev pub invariant-loop-top : goal.invariant-loop-top
invariant-loop-top l = l.found ≡ some_below (leads_at (chunks_of l.claims.descriptor.now) (known_of l.claims) l.chunk l.digest) l.top
