use Rattle.std.proofs.Common.{◌≡◌, ◌≤◌, ◌-◌, max, length}
use Rattle.pp_audit.specs.Alike as terms
use Rattle.pp_recorded.specs.Parts.{all, rest}
use Rattle.pp_audit.proofs.runs.top_of.Given as goal

abbrev pub invariant-messages : goal.invariant-messages
invariant-messages l = record {
  within : l.at ≤ length l.bytes;
  same : terms.top_of (all l.descriptor l.bytes) ≡ max l.top (terms.top_of (rest l.descriptor l.bytes l.at));
}

abbrev pub decreases-messages : goal.decreases-messages
decreases-messages l = length l.bytes - l.at
