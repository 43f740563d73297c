use Rattle.std.proofs.Common.{◌≡◌, ◌≤◌, ◌-◌, length}
use Rattle.pp_recorded.specs.Offers as terms
use Rattle.pp_recorded.specs.Parts.{rest}
use Rattle.pp_audit.proofs.offers.chokes_from.Given as goal

abbrev pub invariant-messages : goal.invariant-messages
invariant-messages l = record {
  within : l.at ≤ length l.bytes;
  same : terms.chokes_after (rest l.descriptor l.bytes l.start) l.fn.choked ≡ terms.chokes_after (rest l.descriptor l.bytes l.at) l.choked;
}

abbrev pub decreases-messages : goal.decreases-messages
decreases-messages l = length l.bytes - l.at
