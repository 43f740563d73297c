use Rattle.std.proofs.Common.{◌≡◌}
use Rattle.pp_traffic.specs.Story.{story}
use Rattle.pp_promises.specs.Announced.{is_acknowledged}
use Rattle.pp_tree.specs.Book.{entry}
use Rattle.pp_audit.specs.Acknowledgements.{acks_each}
use Rattle.pp_recorded.specs.Entries.{past, life_of}
use Rattle.pp_recorded.proofs.Pasts.{first}
use Rattle.pp_audit.proofs.acking.acks_each.Given as goal

abbrev pub invariant-loop-place : goal.invariant-loop-place
invariant-loop-place l =
    l.all ≡ acks_each l.descriptor (entry l.book) (λ i. is_acknowledged i (story l.descriptor (life_of l.life) (past l.entries))) (life_of l.life) (first l.place l.some)
