use Rattle.std.proofs.Common.{◌≡◌}
use Rattle.pp_traffic.specs.Past.{some_since}
use Rattle.pp_traffic.specs.Prompt.{lets_in}
use Rattle.pp_recorded.specs.Entries.{record_of}
use Rattle.pp_recorded.proofs.Pasts.{first}
use Rattle.pp_audit.proofs.newcomers.some_reply.Given as goal

abbrev pub invariant-loop-place : goal.invariant-loop-place
invariant-loop-place l = l.found ≡ some_since (lets_in l.descriptor (record_of l.event)) l.start (first l.place l.entries)
