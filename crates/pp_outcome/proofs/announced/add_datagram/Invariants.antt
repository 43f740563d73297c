use Rattle.std.proofs.Common.{◌≡◌, ℕ, ◌-◌, ◌<◌, ◌≤◌, false, length, get_or}
use Rattle.std.specs.Prelude.{◌||◌}
use Rattle.pp_traffic.specs.Keeping.{announces}
use Rattle.pp_recorded.specs.Parts.{all, rest}
use Rattle.pp_outcome.proofs.announced.add_datagram.Given as goal

abbrev pub invariant-messages : goal.invariant-messages
invariant-messages l = record {
  within : l.at ≤ length l.bytes;
  size : length l.set ≡ length l.initial.set;
  each : (i : ℕ) → i < length l.initial.set
      → (announces i (all l.descriptor l.bytes) || get_or l.initial.set i false) ≡ (announces i (rest l.descriptor l.bytes l.at) || get_or l.set i false);
}

abbrev pub decreases-messages : goal.decreases-messages
decreases-messages l = length l.bytes - l.at
