use Rattle.pp_peer.specs.Greeting.{GivesUpAt, open_at}
use Rattle.pp_peer.proofs.parts.Parts.give_up_all.Given as goal

abbrev pub invariant-requests : goal.invariant-requests
invariant-requests l = GivesUpAt l.seat l.initial.self l.self

abbrev pub decreases-requests : goal.decreases-requests
decreases-requests l = open_at l.self l.seat
