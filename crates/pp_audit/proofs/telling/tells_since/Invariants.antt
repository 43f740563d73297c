use Rattle.std.proofs.Common.{◌≡◌}
use Rattle.pp_traffic.specs.Past.{some_since}
use Rattle.pp_promises.specs.Announced as terms
use Rattle.pp_recorded.specs.Entries.{life_of}
use Rattle.pp_recorded.proofs.Pasts.{first}
use Rattle.pp_audit.proofs.telling.tells_since.Given as goal

abbrev pub invariant-loop-place : goal.invariant-loop-place
invariant-loop-place l = l.found ≡ some_since (terms.tells_of l.descriptor (life_of l.life) l.chunk) l.start (first l.place l.entries)
