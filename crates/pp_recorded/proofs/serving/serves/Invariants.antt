use Rattle.pp_traffic.specs.Meter.{lets_send}
use Rattle.pp_traffic.specs.Serving.{Serves}
use Rattle.pp_tree.specs.Book.{entry}
use Rattle.pp_recorded.proofs.Sendings.{AreOn}
use Rattle.pp_recorded.proofs.serving.serves.Given as goal

abbrev pub invariant-places : goal.invariant-places
invariant-places l = record {
  on : AreOn (Serves l.descriptor (entry l.book) (lets_send l.descriptor.chunk)) l.entries l.place;
}

abbrev pub decreases-places : goal.decreases-places
decreases-places l = l.place
