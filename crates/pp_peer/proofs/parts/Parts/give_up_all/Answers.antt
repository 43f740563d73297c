use Rattle.pp_peer.proofs.GivenUp.{gives_twice_at}
use Rattle.pp_peer.proofs.parts.Parts.give_up_all.Goals as goal

pub requests-preserved : goal.requests-preserved
requests-preserved c =
    gives_twice_at c.args.seat c.args.self.now c.requests.self c.give_up_request.new.self c.requests.invariant c.requests-test.ensures.1
