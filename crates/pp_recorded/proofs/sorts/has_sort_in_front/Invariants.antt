use Rattle.std.proofs.Common.{◌≡◌, ◌≤◌, length, take}
use Rattle.std.specs.List.{list_any}
use Rattle.pp_recorded.specs.Parts.{all, rest}
use Rattle.pp_recorded.specs.Sorts.{sort_of}
use Rattle.pp_recorded.proofs.sorts.has_sort_in_front.Given as goal

abbrev pub invariant-messages : goal.invariant-messages
invariant-messages l = record {
  within : l.at ≤ length l.bytes;
  same : list_any (sort_of l.sort) (take l.count (all l.descriptor l.bytes)) ≡ list_any (sort_of l.sort) (take l.left (rest l.descriptor l.bytes l.at));
}

abbrev pub decreases-messages : goal.decreases-messages
decreases-messages l = l.left
