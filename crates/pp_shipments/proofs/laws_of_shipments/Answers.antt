use Rattle.pp_shipments.proofs.Shipments.{shipments_are_stored}
use Rattle.pp_shipments.proofs.laws_of_shipments.Goals as goal

pub returns : goal.returns
returns c = shipments_are_stored
