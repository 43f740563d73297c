use Rattle.std.proofs.Common.{◌≡◌, ◌≤◌, ◌-◌, length}
use Rattle.pp_terms.specs.format.Descriptor.{Descriptor}
use Rattle.pp_targets.specs.Names.{name_of}
use Rattle.pp_learner.specs.Reading.{Tells, messages_from, read_from}
use Rattle.pp_learner.proofs.reading.read.Given as goal

abbrev pub invariant-messages : goal.invariant-messages
invariant-messages l = record {
  within : l.at ≤ length l.bytes;
  same : read_from (name_of l.name) l.bytes 4 l.initial.row l.initial.counts ≡ read_from (name_of l.name) l.bytes l.at l.row l.counts;
  tells : (e : Descriptor) → Tells (name_of l.name) e (messages_from (name_of l.name) l.bytes l.at).read l.row
      → Tells (name_of l.name) e (messages_from (name_of l.name) l.bytes 4).read l.initial.row;
}

abbrev pub decreases-messages : goal.decreases-messages
decreases-messages l = length l.bytes - l.at
