use Rattle.std.proofs.Common.{◌≡◌}
use Rattle.pp_traffic.specs.Past.{is_at}
use Rattle.pp_recorded.specs.Entries.{life_of}
use Rattle.pp_recorded.specs.Tests.{test_of}
use Rattle.pp_recorded.proofs.Pasts.{first}
use Rattle.pp_recorded.proofs.plain.is_at.Given as goal

abbrev pub invariant-loop-place : goal.invariant-loop-place
invariant-loop-place l = l.found ≡ is_at (test_of l.kind l.descriptor (life_of l.life)) l.at (first l.place l.entries)
