use Rattle.std.proofs.Common.{◌≡◌, ◌≤◌, ◌-◌, length}
use Rattle.std.specs.List.{list_any}
use Rattle.pp_recorded.specs.Parts.{rest}
use Rattle.pp_recorded.specs.Sorts.{sort_of}
use Rattle.pp_recorded.proofs.sorts.has_sort.Given as goal

abbrev pub invariant-messages : goal.invariant-messages
invariant-messages l = record {
  within : l.at ≤ length l.bytes;
  same : list_any (sort_of l.sort) (rest l.descriptor l.bytes l.start) ≡ list_any (sort_of l.sort) (rest l.descriptor l.bytes l.at);
}

abbrev pub decreases-messages : goal.decreases-messages
decreases-messages l = length l.bytes - l.at
