use Rattle.std.proofs.Common.{◌≡◌}
use Rattle.pp_recorded.specs.Entries.{past, life_of}
use Rattle.pp_audit.specs.Channels.{passes_replies}
use Rattle.pp_audit.specs.Duties.{is_done}
use Rattle.pp_recorded.proofs.Pasts.{first}
use Rattle.pp_audit.proofs.channels.passes_replies.Given as goal

abbrev pub invariant-loop-entry : goal.invariant-loop-entry
invariant-loop-entry l = l.all ≡ passes_replies (is_done l.duty l.descriptor (past l.entries)) l.descriptor (life_of l.life) (first l.entry-index l.entries)
