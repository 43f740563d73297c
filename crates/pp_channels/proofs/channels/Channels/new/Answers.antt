use Rattle.pp_channels.proofs.Seating.{all_free}
use Rattle.pp_channels.proofs.channels.Channels.new.Goals as goal

pub invariant_of-result : goal.invariant_of-result
invariant_of-result c = rw c.in_ok-seats.ensures all_free
