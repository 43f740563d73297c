use Rattle.std.proofs.Common.{◌≡◌}
use Rattle.pp_promises.specs.Served as terms
use Rattle.pp_recorded.specs.Entries.{life_of}
use Rattle.pp_recorded.proofs.Pasts.{first}
use Rattle.pp_recorded.proofs.owing.is_owed.Given as goal

abbrev pub invariant-loop-place : goal.invariant-loop-place
invariant-loop-place l = l.owed ≡ terms.is_owed l.descriptor (life_of l.life) l.chunk (first l.place l.entries)
