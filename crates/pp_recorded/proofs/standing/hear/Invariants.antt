use Rattle.std.proofs.Common.{◌≡◌, ◌≤◌, ◌-◌, length}
use Rattle.pp_terms.specs.format.Descriptor.{chunks_of}
use Rattle.pp_recorded.specs.Parts.{rest}
use Rattle.pp_recorded.specs.Standing.{hear_all}
use Rattle.pp_recorded.proofs.standing.hear.Given as goal

abbrev pub invariant-messages : goal.invariant-messages
invariant-messages l = record {
  within : l.at ≤ length l.bytes;
  same : hear_all (chunks_of l.descriptor) l.question (rest l.descriptor l.bytes l.start) l.fn.standing ≡ hear_all (chunks_of l.descriptor) l.question (rest l.descriptor l.bytes l.at) l.standing;
}

abbrev pub decreases-messages : goal.decreases-messages
decreases-messages l = length l.bytes - l.at
