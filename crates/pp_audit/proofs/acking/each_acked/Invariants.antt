use Rattle.std.proofs.Common.{◌≡◌, ◌≤◌, ◌-◌, [], length}
use Rattle.pp_tree.specs.Book.{entry}
use Rattle.pp_recorded.specs.Entries.{past, life_of}
use Rattle.pp_recorded.specs.Parts.{all, rest}
use Rattle.pp_audit.specs.Storings.{each_stored, known_behind}
use Rattle.pp_audit.specs.Acknowledgements.{is_acked}
use Rattle.pp_traffic.specs.Story.{story}
use Rattle.pp_promises.specs.Announced.{is_acknowledged}
use Rattle.pp_recorded.proofs.Sendings.{IsOn}
use Rattle.pp_audit.proofs.acking.each_acked.Given as goal

abbrev pub invariant-messages : goal.invariant-messages
invariant-messages l = record {
  within : l.at ≤ length l.bytes;
  few : l.count ≤ l.at;
  on : IsOn (λ front part.
      each_stored (λ f m. is_acked l.descriptor (entry l.book) (λ i. is_acknowledged i (story l.descriptor (life_of l.life) (past l.entries))) (past l.before) (known_behind l.descriptor (life_of l.life) (past l.before) f) f m) front part
      ≡ each_stored (λ f m. is_acked l.descriptor (entry l.book) (λ i. is_acknowledged i (story l.descriptor (life_of l.life) (past l.entries))) (past l.before) (known_behind l.descriptor (life_of l.life) (past l.before) f) f m) [] (all l.descriptor l.bytes))
      (all l.descriptor l.bytes) l.count (rest l.descriptor l.bytes l.at);
}

abbrev pub decreases-messages : goal.decreases-messages
decreases-messages l = length l.bytes - l.at
