use Rattle.std.proofs.Common.{◌≡◌}
use Rattle.pp_recorded.specs.Entries.{past}
use Rattle.pp_audit.specs.Channels.{passes_openings}
use Rattle.pp_audit.specs.Duties.{is_done}
use Rattle.pp_recorded.proofs.Pasts.{first}
use Rattle.pp_audit.proofs.channels.each_plain.Given as goal

abbrev pub invariant-loop-place : goal.invariant-loop-place
invariant-loop-place l = l.all ≡ passes_openings (is_done l.duty l.descriptor (past l.entries)) l.descriptor (past l.entries) (first l.place l.entries)
