use Rattle.pp_seat.proofs.Awaited.{lines_keep_awaited, none_awaited}
use Rattle.pp_seat.proofs.Outstanding.{own_is_asking}
use Rattle.pp_seat.proofs.Stops.{stops_are_told}
use Rattle.pp_seat.proofs.laws_of_own.Goals as goal

pub returns : goal.returns
returns c = record { lines = lines_keep_awaited; begins = none_awaited; own = own_is_asking; stops = stops_are_told }
