use Rattle.pp_channels.specs.Seats.{used_of}
use Rattle.pp_peer.specs.Greeting.{Drops}
use Rattle.pp_peer.proofs.parts.Parts.expire.Given as goal

abbrev pub invariant-channels : goal.invariant-channels
invariant-channels l = Drops l.initial.self l.self

abbrev pub decreases-channels : goal.decreases-channels
decreases-channels l = used_of l.self.seats.table
