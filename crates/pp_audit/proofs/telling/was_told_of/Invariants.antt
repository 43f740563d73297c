use Rattle.std.proofs.Common.{◌≡◌}
use Rattle.pp_promises.specs.Announced as terms
use Rattle.pp_recorded.specs.Entries.{life_of}
use Rattle.pp_recorded.proofs.Pasts.{first}
use Rattle.pp_audit.proofs.telling.was_told_of.Given as goal

abbrev pub invariant-loop-place : goal.invariant-loop-place
invariant-loop-place l = l.found ≡ terms.was_told_of l.descriptor (life_of l.life) l.chunk (first l.place l.entries)
