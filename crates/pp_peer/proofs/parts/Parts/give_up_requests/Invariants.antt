use Rattle.pp_peer.specs.Greeting.{GivesUp}
use Rattle.pp_peer.proofs.GivenUp.{HaveNoneSpent}
use Rattle.pp_peer.proofs.parts.Parts.give_up_requests.Given as goal

abbrev pub invariant-loop-seat : goal.invariant-loop-seat
invariant-loop-seat l = GivesUp l.initial.self l.self × HaveNoneSpent l.seat l.self
