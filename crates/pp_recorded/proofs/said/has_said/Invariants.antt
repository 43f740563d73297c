use Rattle.std.proofs.Common.{◌≡◌}
use Rattle.pp_recorded.specs.Entries.{life_of}
use Rattle.pp_recorded.specs.Said as terms
use Rattle.pp_recorded.proofs.Pasts.{first}
use Rattle.pp_recorded.proofs.said.has_said.Given as goal

abbrev pub invariant-loop-place : goal.invariant-loop-place
invariant-loop-place l = l.found ≡ terms.has_said l.sort l.descriptor (first l.place l.entries) (life_of l.life)
