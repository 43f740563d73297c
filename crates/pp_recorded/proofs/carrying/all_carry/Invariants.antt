use Rattle.std.proofs.Common.{◌≤◌, length, take}
use Rattle.pp_traffic.specs.Hashes.{Carries}
use Rattle.pp_tree.specs.Book.{entry}
use Rattle.pp_recorded.specs.Parts.{all, rest}
use Rattle.pp_recorded.proofs.Books.{IsLeft}
use Rattle.pp_recorded.proofs.carrying.all_carry.Given as goal

abbrev pub invariant-messages : goal.invariant-messages
invariant-messages l = record {
  within : l.at ≤ length l.bytes;
  so_far : IsLeft (Carries (entry l.book)) (take l.count (all l.descriptor l.bytes)) (take l.left (rest l.descriptor l.bytes l.at));
}

abbrev pub decreases-messages : goal.decreases-messages
decreases-messages l = l.left
