use Rattle.std.proofs.Common.{◌≡◌, ◌≤◌, ◌-◌, length}
use Rattle.pp_recorded.specs.Parts.{rest}
use Rattle.pp_recorded.specs.Standing.{say_all}
use Rattle.pp_recorded.proofs.standing.say.Given as goal

abbrev pub invariant-messages : goal.invariant-messages
invariant-messages l = record {
  within : l.at ≤ length l.bytes;
  same : say_all l.question (rest l.descriptor l.bytes l.start) l.fn.standing ≡ say_all l.question (rest l.descriptor l.bytes l.at) l.standing;
}

abbrev pub decreases-messages : goal.decreases-messages
decreases-messages l = length l.bytes - l.at
