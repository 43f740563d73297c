use Rattle.std.proofs.Common.{◌≡◌}
use Rattle.pp_recorded.specs.Entries.{life_of}
use Rattle.pp_recorded.specs.Sorts.{sort_of}
use Rattle.pp_recorded.specs.Offers as terms
use Rattle.pp_recorded.proofs.Pasts.{first}
use Rattle.pp_audit.proofs.offers.has_heard.Given as goal

abbrev pub invariant-loop-place : goal.invariant-loop-place
invariant-loop-place l = l.found ≡ terms.has_heard (sort_of l.sort) l.descriptor (life_of l.life) (first l.place l.entries)
