use Rattle.std.proofs.Common.{◌≡◌, ◌≤◌, ◌-◌, length}
use Rattle.pp_promises.specs.Served as terms
use Rattle.pp_recorded.specs.Parts.{rest}
use Rattle.pp_recorded.proofs.owing.said.Given as goal

abbrev pub invariant-messages : goal.invariant-messages
invariant-messages l = record {
  within : l.at ≤ length l.bytes;
  same : terms.asked_after_said l.chunk (rest l.descriptor l.bytes l.start) l.fn.asked ≡ terms.asked_after_said l.chunk (rest l.descriptor l.bytes l.at) l.asked;
}

abbrev pub decreases-messages : goal.decreases-messages
decreases-messages l = length l.bytes - l.at
